-- Events skipped one by one. Assumes nothing.
use mathlib.Core.Path.{◌≡◌, sym, ap, ap₂, ◌∙◌}
use mathlib.Core.List.{List, [], ◌∷◌}
use Prim.Native.Nat.{ℕ, suc, ◌+◌, ◌-◌, ◌≤◌, ◌<◌}
use native.Mathlib.Nat.{sub-zero, zero-add}
use native.Mathlib.Omega.{arith}
use lib.ListN.{length, take, drop, length-drop}
use lib.Seq.{drop-drop, take-nil}
use Rattle.store.specs.Chain.{sum_over}
use Rattle.store.specs.Layout.{Event, point, lost}
use Rattle.capture.specs.Capture.{first, size, events_in}
use Rattle.capture.specs.Skip.{skipped_of}
use Rattle.capture.proofs.BlockLaws.{Begin, none, one, begin, events_none, events_one}

pub size_not_0 : (e : Event) → size e ≡ 0 → ⊥
size_not_0 (point p) h = omega arith
size_not_0 (lost n) h = omega arith

-- k events of u bytes are skipped: what is left to skip is what was left to skip
pub record Skipping (bs : List ℕ) (n k u : ℕ) : Type 0 where
  pub within : k ≤ n
  pub inside : u ≤ length bs
  pub counted : k + length (take (n - k) (events_in (drop u bs))) ≡ length (take n (events_in bs))
  pub sized : u + sum_over size (take (n - k) (events_in (drop u bs))) ≡ sum_over size (take n (events_in bs))

pub skip_start : (bs : List ℕ) (n : ℕ) → Skipping bs n 0 0
skip_start bs n = record { within = omega arith; inside = omega arith; counted = rw (sub-zero, zero-add); sized = rw (sub-zero, zero-add) }

module _ (bs : List ℕ) (n k u : ℕ) (l : Skipping bs n k u) where
  -- nothing is left
  skip_end : take (n - k) (events_in (drop u bs)) ≡ [] → record { skipped = k; used = u } ≡ skipped_of n bs
  unfolding skipped_of
  skip_end e =
      ap₂ (λ (x y : ℕ). record { skipped = x; used = y })
      (let h : k ≡ length (take n (events_in bs)) = omega (arith, l.counted, ap length e) in h)
      (let h : u ≡ sum_over size (take n (events_in bs)) = omega (arith, l.sized, ap (sum_over size) e) in h)

  pub skip_all : n ≤ k → record { skipped = k; used = u } ≡ skipped_of n bs
  skip_all h = skip_end (ap (λ (i : ℕ). take i (events_in (drop u bs))) (let z : n - k ≡ 0 = omega arith in z))

  module _ (e : ℕ) (h : e ≡ sum_over size (first (drop u bs))) where
    pub skip_none : e ≡ 0 → record { skipped = k; used = u } ≡ skipped_of n bs
    skip_none z = go (begin (drop u bs))
      where
        go : Begin (drop u bs) → record { skipped = k; used = u } ≡ skipped_of n bs
        go (none f s) = skip_end (ap (take (n - k)) (events_none (drop u bs) f) ∙ take-nil (n - k))
        go (one v s) = absurd (omega (arith, ap (sum_over size) s.is, s.least))

    pub skip_step : k < n → (e ≡ 0 → ⊥) → Skipping bs n (k + 1) (u + e)
    skip_step m z = go (begin (drop u bs))
      where
        go : Begin (drop u bs) → Skipping bs n (k + 1) (u + e)
        go (none f s) = absurd (z (h ∙ ap (sum_over size) f))
        go (one v s) =
            let w : e ≡ size v = omega (arith, h, ap (sum_over size) s.is) in
            let t : take (n - k) (events_in (drop u bs)) ≡ v ∷ take (n - (k + 1)) (events_in (drop (u + e) bs)) =
            ap₂ take (let q : n - k ≡ suc (n - (k + 1)) = omega arith in q) (events_one (drop u bs) v s)
            ∙ ap (λ (x : List ℕ). v ∷ take (n - (k + 1)) (events_in x)) (drop-drop (size v) u bs ∙ ap (λ (i : ℕ). drop (u + i) bs) (sym w)) in
            record {
              within = omega arith;
              inside = omega (arith, w, s.whole, length-drop u bs);
              counted = omega (arith, l.counted, ap length t);
              sized = omega (arith, w, l.sized, ap (sum_over size) t);
            }
