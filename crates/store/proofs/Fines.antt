-- The events of an accepted store: its points are in range, its lost counts at least 1, and no event has more intervals than the total.
-- Assumes nothing.
use mathlib.Core.Path.{◌≡◌, sym, subst}
use mathlib.Core.Bool.{true, false, ◌&&◌}
use mathlib.Core.List.{List, [], ◌∷◌, ◌++◌}
use Prim.Native.Nat.{ℕ, zero, suc, ◌≤◌}
use native.Mathlib.Omega.{arith}
use borrow.Author.Tests.{leb-true}
use lib.Dec.{T, leb, eqb}
use lib.ListN.{drop}
use Rattle.line.specs.Table.{All}
use Rattle.line.specs.Point.{in_range}
use Rattle.octets.specs.Number.{u32, zeros}
use Rattle.line.proofs.Tests.{by_test, and_split}
use Rattle.store.specs.Chain.{gather, sum_over}
use Rattle.store.specs.Layout.{Event, point, lost, intervals, rec, held, is_points, point_at, points, points_ok, kind, record_ok, events_of}
use Rattle.store.specs.Store.{chain, events, total, refusal}
use Rattle.store.proofs.Sounds.{accepted_sound}
use Rattle.store.proofs.Spans.{chain_span}

-- ---- what a record holds
abbrev pub Fine : Event → Type 0
Fine (point p) = T (in_range p)
Fine (lost n) = 1 ≤ n

fine_append : (xs ys : List Event) → All Fine xs → All Fine ys → All Fine (xs ++ ys)
fine_append [] ys a b = b
fine_append (e ∷ xs) ys a b = (a.0, fine_append xs ys a.1 b)

points_fine : (bs : List ℕ) (n : ℕ) → points_ok bs n ≡ true → All Fine (points bs n)
points_fine bs zero e = tt
points_fine bs (suc n) e =
    let z = and_split (in_range (point_at bs)) (points_ok (drop 4 bs) n) e in
    (subst T (sym z.0) tt, points_fine (drop 4 bs) n z.1)

record_fine : (r : List ℕ) → record_ok r ≡ true → All Fine (events_of r)
unfolding record_ok events_of
record_fine r ok = by_test (is_points r) of_points of_lost
  where
    of_points : is_points r ≡ true → All Fine (events_of r)
    of_points e =
        let z = and_split (leb (held r) 7 && leb 1 (held r)) (points_ok (drop 4 r) (held r)) (rw e at ok) in
        rw e (points_fine (drop 4 r) (held r) z.1)

    of_lost : is_points r ≡ false → All Fine (events_of r)
    of_lost e =
        let z = and_split (eqb (kind r) 2 && eqb (held r) 0 && leb 1 (u32 r 4)) (zeros (drop 8 r)) (rw e at ok) in
        let y = and_split (eqb (kind r) 2 && eqb (held r) 0) (leb 1 (u32 r 4)) z.0 in
        rw e (leb-true 1 (u32 r 4) y.1, tt)

-- ---- and a chain
chain_fine : (f : ℕ → List ℕ) (c : List ℕ) → All (λ i. record_ok (f i) ≡ true) c → All Fine (gather (λ i. events_of (f i)) c)
chain_fine f [] a = tt
chain_fine f (i ∷ c) a = fine_append (events_of (f i)) _ (record_fine (f i) a.0) (chain_fine f c a.1)

pub events_fine : (s : List ℕ) → refusal s ≡ 0 → All Fine (events s)
unfolding events
events_fine s acc = chain_fine (rec s) (chain s) (accepted_sound s acc).records

pub events_span : (s : List ℕ) → refusal s ≡ 0 → sum_over intervals (events s) ≡ total s
unfolding events
events_span s acc = omega (arith, chain_span (rec s) (chain s), (accepted_sound s acc).sum)
