-- The records of a chain that are left at an index: what the iterator over them gives. Assumes nothing.
use mathlib.Core.Path.{◌≡◌, refl, sym, ap, ◌∙◌}
use mathlib.Core.Bool.{true}
use mathlib.Core.List.{List, [], ◌∷◌, ◌++◌, map}
use Prim.Native.Nat.{ℕ, suc, ◌+◌, ◌*◌, ◌≤◌, ◌<◌}
use native.Mathlib.Omega.{arith}
use lib.ListN.{length}
use Rattle.line.specs.Table.{All}
use Rattle.store.specs.Chain.{walk, gather}
use Rattle.store.specs.Layout.{Event, count, rec, next, record_ok, events_of}
use Rattle.store.specs.Store.{chain, events, refusal}
use Rattle.store.specs.Records.{records_from, records, events_in, OnChain}
use Rattle.store.proofs.Chains.{Run, ends_run, run_ends, run_short, walk_run}
use Rattle.store.proofs.Going.{walk-zero}
use Rattle.store.proofs.Sounds.{size_sized, accepted_sound, sound_size}

-- ---- from one index to the next
pub from_end : (s : List ℕ) (i : ℕ) → i ≡ 0 → records_from s i ≡ []
unfolding records_from
from_end s i e = ap (map (rec s)) (ap (walk (next s) (count s)) e ∙ walk-zero (next s) (count s))

module _ (s : List ℕ) (i : ℕ) (o : OnChain s i) (nz : i ≡ 0 → ⊥) where
  pub on_within : 32 * i + 32 ≤ length s
  on_within = let p = ends_run (next s) (count s) (count s) i o.ending in inside p.0 (p.1, p.2, p.3)
    where
      inside : (xs : List ℕ) → Run (next s) i xs × All (λ x. x < count s) xs × (length xs ≤ count s) → 32 * i + 32 ≤ length s
      inside [] r = absurd (nz r.0)
      inside (x ∷ xs) r = let b : x < count s = r.1.0 in let e : i ≡ x = r.0.0 in omega (arith, (size_sized s o.size).whole)

  pub on_next : (i' : ℕ) → i' ≡ next s i → OnChain s i' × (records_from s i ≡ rec s i ∷ records_from s i')
  unfolding records_from
  on_next i' q = let p = ends_run (next s) (count s) (count s) i o.ending in further p.0 (p.1, p.2, p.3)
    where
      further : (xs : List ℕ) → Run (next s) i xs × All (λ x. x < count s) xs × (length xs ≤ count s)
          → OnChain s i' × (records_from s i ≡ rec s i ∷ records_from s i')
      further [] r = absurd (nz r.0)
      further (x ∷ xs) r =
          let e : i' ≡ next s x = q ∙ ap (next s) r.0.0 in
          let l : length xs ≤ count s = let m : suc (length xs) ≤ count s = r.2 in omega arith in (
            record { size = o.size; ending = rw e (run_ends (next s) (count s) (count s) (next s x) xs r.0.2 r.1.1 l) },
            ap (map (rec s)) (walk_run (next s) (x ∷ xs) (count s) i r.0 r.2)
                ∙ cc (sym (r.0.0), ap (map (rec s)) (walk_run (next s) xs (count s) (next s x) r.0.2 l), e),
          )

-- ---- the whole chain
pub records-start : (s : List ℕ) (i : ℕ) → i ≡ next s 0 → records_from s i ≡ records s
unfolding records_from records chain
records-start s i e = ap (λ (j : ℕ). map (rec s) (walk (next s) (count s) j)) e

pub on_start : (s : List ℕ) (i : ℕ) → refusal s ≡ 0 → i ≡ next s 0 → OnChain s i
unfolding chain
on_start s i acc e =
    let o = accepted_sound s acc in
    let c : List ℕ = walk (next s) (count s) (next s 0) in
    let h : length c < count s = run_short (next s) (count s) (next s 0) c (omega (arith, o.least)) o.run o.within in
    record {
      size = sound_size s acc;
      ending = rw e (run_ends (next s) (count s) (count s) (next s 0) c o.run o.within (omega arith));
    }

map_long : (f : ℕ → List ℕ) (c : List ℕ) → length (map f c) ≡ length c
map_long f [] = refl
map_long f (x ∷ c) = ap suc (map_long f c)

-- an accepted store has at most 2048 records
pub records_long : (s : List ℕ) → refusal s ≡ 0 → length (records s) ≤ 2048
unfolding records chain
records_long s acc =
    let o = accepted_sound s acc in
    let c : List ℕ = walk (next s) (count s) (next s 0) in
    let h : length c < count s = run_short (next s) (count s) (next s 0) c (omega (arith, o.least)) o.run o.within in
    omega (arith, h, o.most, map_long (rec s) c)

map_ok : (f : ℕ → List ℕ) (c : List ℕ) → All (λ i. record_ok (f i) ≡ true) c → All (λ r. record_ok r ≡ true) (map f c)
map_ok f [] a = tt
map_ok f (x ∷ c) a = (a.0, map_ok f c a.1)

-- each keeps to the layout
pub records_fine : (s : List ℕ) → refusal s ≡ 0 → All (λ r. record_ok r ≡ true) (records s)
unfolding records
records_fine s acc = map_ok (rec s) (chain s) (accepted_sound s acc).records

map_events : (f : ℕ → List ℕ) (c : List ℕ) → events_in (map f c) ≡ gather (λ i. events_of (f i)) c
map_events f [] = refl
map_events f (i ∷ c) = ap (λ (es : List Event). events_of (f i) ++ es) (map_events f c)

-- their events are the store's
pub records_events : (s : List ℕ) → events_in (records s) ≡ events s
unfolding records events
records_events s = map_events (rec s) (chain s)
