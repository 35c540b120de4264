-- The sums of events: of a point's bytes, of a record, of a chain. Assumes nothing.
use mathlib.Core.Path.{◌≡◌, refl, sym, ap, ap₂, ◌∙◌}
use mathlib.Core.Bool.{Bool, true, false, ◌&&◌, cond}
use mathlib.Core.List.{List, [], ◌∷◌}
use Prim.Native.Nat.{ℕ, zero, suc, ◌+◌, ◌*◌, ◌-◌, ◌≤◌, ◌<◌}
use native.Mathlib.Omega.{arith}
use native.Mathlib.Nat.{zero-add, sub-zero}
use borrow.Author.Tests.{eq-eqb, ne_eqb, ltb-false, eqb-true, eqb-false}
use lib.Dec.{eqb, ltb}
use lib.IntN.{nat_abs}
use lib.ListN.{drop}
use Rattle.line.specs.Point.{at, is_origin}
use Rattle.line.proofs.Tests.{by_test}
use Rattle.octets.specs.Number.{u16, u32, i16, signed}
use Rattle.store.specs.Chain.{sum_over}
use Rattle.store.specs.Layout.{Event, point, lost, intervals, rec, kind, held, point_at, points, events_of}
use Rattle.store.specs.Store.{chain, events}
use Rattle.store.proofs.Chains.{sum_append}
use Rattle.store.proofs.Readings.{of_points, of_lost, points-next}
use Rattle.store.proofs.Sounds.{accepted_sound}
use Rattle.store.proofs.Spans.{chain_span}
use Rattle.summing.specs.declared.EventSums.{EventSums}
use Rattle.summing.specs.Sums.{decided_in, lost_in, gaps_in, sums_of, plus}
use Rattle.summing.specs.Room.{OfRecords}
use Rattle.summing.specs.Laws.{PlusIsTotal, PartsAdd}

-- ---- a point's bytes
signed-zero : (u : ℕ) → eqb (nat_abs (signed u)) 0 ≡ eqb u 0
unfolding signed
signed-zero u =
    by_test (ltb u 32768)
    (λ e. rw e refl)
    (λ e. let h = ltb-false u 32768 e in rw (e, ne_eqb u 0 (λ z. omega arith)) (ne_eqb (suc (65535 - u)) 0 (λ z. omega arith)))

pub origin_bytes : (r : List ℕ) (a : ℕ) → is_origin (at (i16 r a) (i16 r (a + 2))) ≡ eqb (u32 r a) 0
unfolding is_origin
origin_bytes r a = ap₂ ◌&&◌ (signed-zero (u16 r a)) (signed-zero (u16 r (a + 2))) ∙ both (u16 r a) (u16 r (a + 2))
  where
    both : (x y : ℕ) → (eqb x 0 && eqb y 0) ≡ eqb (x + 65536 * y) 0
    both x y =
        by_test (eqb x 0)
        (λ e. by_test (eqb y 0)
        (λ f. let p = eqb-true x 0 e in let q = eqb-true y 0 f in rw (e, f, eq-eqb (x + 65536 * y) 0 (omega arith)))
        (λ f. let q = eqb-false y 0 f in rw (e, f, ne_eqb (x + 65536 * y) 0 (λ z. q (omega arith)))))
        (λ e. let p = eqb-false x 0 e in rw (e, ne_eqb (x + 65536 * y) 0 (λ z. p (omega arith))))

pub at_origin : (r : List ℕ) (a n : ℕ) → n ≡ u32 r a → n ≡ 0 → 1 ≡ gaps_in (point (at (i16 r a) (i16 r (a + 2))))
at_origin r a n e z = rw (origin_bytes r a, eq-eqb (u32 r a) 0 (sym e ∙ z))

pub off_origin : (r : List ℕ) (a n : ℕ) → n ≡ u32 r a → (n ≡ 0 → ⊥) → 0 ≡ gaps_in (point (at (i16 r a) (i16 r (a + 2))))
off_origin r a n e z = rw (origin_bytes r a, ne_eqb (u32 r a) 0 (λ q. z (e ∙ q)))

-- ---- a record's points
-- what is left to count after k of n points
abbrev pub Counted : List ℕ → ℕ → ℕ → ℕ → Type 0
Counted r n o k = (k ≤ n) × (o ≤ k) × (o + sum_over gaps_in (points (drop (4 + 4 * k) r) (n - k)) ≡ sum_over gaps_in (points (drop 4 r) n))

pub counted_start : (r : List ℕ) (n : ℕ) → Counted r n 0 0
counted_start r n = (omega arith, omega arith, zero-add _ ∙ ap (λ (m : ℕ). sum_over gaps_in (points (drop 4 r) m)) (sub-zero n))

pub counted_step : (r : List ℕ) (n o k d : ℕ) → k < n → Counted r n o k → d ≡ gaps_in (point (at (i16 r (4 + 4 * k)) (i16 r (4 + 4 * k + 2)))) → d ≤ 1
    → Counted r n (o + d) (k + 1)
counted_step r n o k d h c e l = (omega arith, omega (arith, c.1), omega (arith, ap (sum_over gaps_in) (points-next r n k h), c.2, e))

pub counted_end : (r : List ℕ) (n o k : ℕ) → n ≤ k → Counted r n o k → (o ≡ sum_over gaps_in (points (drop 4 r) n)) × (o ≤ n)
counted_end r n o k h c =
    let e : n - k ≡ 0 = omega arith in
    (omega (arith, ap (λ (m : ℕ). sum_over gaps_in (points (drop (4 + 4 * k) r) m)) e, c.2), omega (arith, c.0, c.1))

-- a point is decided or at the origin, and there a gap and a lost interval
one_of_both : (p : Bool) → (cond p 0 1 + cond p 1 0) ≡ 1
one_of_both true = refl
one_of_both false = refl

points_both : (bs : List ℕ) (n : ℕ) → (sum_over decided_in (points bs n) + sum_over gaps_in (points bs n) ≡ n) × (sum_over lost_in (points bs n) ≡ sum_over gaps_in (points bs n))
points_both bs zero = (refl, refl)
points_both bs (suc n) =
    let h = points_both (drop 4 bs) n in
    (omega (arith, h.0, one_of_both (is_origin (point_at bs))), omega (arith, h.1))

-- ---- a record
pub points_sums : (r : List ℕ) (n o : ℕ) → kind r ≡ 1 → n ≡ held r → n < 256 → (o ≡ sum_over gaps_in (points (drop 4 r) n)) × (o ≤ n)
    → (record { points = n - o; lost = o; gaps = o } ≡ sums_of (events_of r)) × OfRecords 1 (record { points = n - o; lost = o; gaps = o })
points_sums r n o k e h c =
    let b = points_both (drop 4 r) n in
    let p : n - o ≡ sum_over decided_in (points (drop 4 r) n) = omega (arith, b.0, c.0) in
    let l : o ≡ sum_over lost_in (points (drop 4 r) n) = omega (arith, b.1, c.0) in
    let all : sums_of (events_of r) ≡ sums_of (points (drop 4 r) n) = ap sums_of (of_points r k ∙ ap (points (drop 4 r)) (sym e)) in
    (cc (p, l, c.0) ∙ sym all, record { points_in_lem = omega arith; lost_in_lem = omega (arith, c.1); gaps_in_lem = omega (arith, c.1) })

pub lost_sums : (r : List ℕ) (n : ℕ) → (kind r ≡ 1 → ⊥) → n ≡ u32 r 4 → n < 4294967296
    → (record { points = 0; lost = n; gaps = 1 } ≡ sums_of (events_of r)) × OfRecords 1 (record { points = 0; lost = n; gaps = 1 })
lost_sums r n k e h =
    let one : sums_of (lost n ∷ []) ≡ record { points = 0; lost = n; gaps = 1 } = ap (λ (m : ℕ). record { points = 0; lost = m; gaps = 1 }) (let z : n + 0 ≡ n = omega arith in z) in
    (sym one ∙ ap (λ (m : ℕ). sums_of (lost m ∷ [])) e ∙ ap sums_of (sym (of_lost r k)), record { points_in_lem = omega arith; lost_in_lem = omega arith; gaps_in_lem = omega arith })

-- ---- events in parts
pub same_sums : (a b : EventSums) → a.points ≡ b.points → a.lost ≡ b.lost → a.gaps ≡ b.gaps → a ≡ b
same_sums a b p l g =
    let of : ℕ → ℕ → ℕ → EventSums = λ x y z. record { points = x; lost = y; gaps = z } in
    ap (λ (x : ℕ). of x a.lost a.gaps) p ∙ ap (λ (y : ℕ). of b.points y a.gaps) l ∙ ap (of b.points b.lost) g

pub parts_add : PartsAdd
parts_add xs ys = same_sums _ _ (sum_append decided_in xs ys) (sum_append lost_in xs ys) (sum_append gaps_in xs ys)

pub plus_assoc : (a b c : EventSums) → plus (plus a b) c ≡ plus a (plus b c)
plus_assoc a b c = same_sums _ _ (omega arith) (omega arith) (omega arith)

pub plus_none : (v : EventSums) → plus v (sums_of []) ≡ v
plus_none v = same_sums _ _ (omega arith) (omega arith) (omega arith)

pub none_plus : (v : EventSums) → plus (sums_of []) v ≡ v
none_plus v = same_sums _ _ (omega arith) (omega arith) (omega arith)

-- ---- P plus L
plus-intervals : (es : List Event) → sum_over decided_in es + sum_over lost_in es ≡ sum_over intervals es
plus-intervals [] = refl
plus-intervals (point p ∷ es) = omega (arith, plus-intervals es, one_of_both (is_origin p))
plus-intervals (lost n ∷ es) = omega (arith, plus-intervals es)

pub plus_is_total : PlusIsTotal
unfolding events
plus_is_total s acc =
    let q = plus-intervals (events s) ∙ chain_span (rec s) (chain s) in
    (q ∙ sym (accepted_sound s acc).sum, q)
