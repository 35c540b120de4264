-- Calls that say how much they wrote. Assumes nothing.
use Prim.Native.Nat.{ℕ, zero, suc, ◌≤◌, ◌<◌}
use mathlib.Core.Path.{◌≡◌, refl}
use mathlib.Core.Bool.{true, false}
use mathlib.Core.List.{List, [], ◌∷◌}
use borrow.Author.Tests.{le-leb, lt-leb}
use lib.Dec.{leb}
use lib.ListN.{length}
use lib.Seq.{sets}
use Rattle.line.specs.Refusal.{accepted}
use Rattle.kerambiu.specs.Counted.{counted_number, counted_out, counted_counts}

module _ {A : Type 0} (counts : List ℕ) (n c : ℕ) (result before : A) where
  pub count_short : length counts < 1
      → (7 ≡ counted_number counts n) × (before ≡ counted_out counts result before) × (counts ≡ counted_counts counts n c)
  unfolding counted_number counted_out counted_counts
  count_short h = let f : leb 1 (length counts) ≡ false = lt-leb _ _ h in (rw f, rw f, rw f)

  -- `m`, `ks` and `out` are what the call gave
  pub count_given : (m : ℕ) (ks : List ℕ) (out : A) → 1 ≤ length counts → m ≡ n → ks ≡ accepted n (c ∷ []) [] → out ≡ result
      → (m ≡ counted_number counts n) × (out ≡ counted_out counts result before) × (sets counts 0 ks ≡ counted_counts counts n c)
  unfolding counted_number counted_out counted_counts
  count_given m ks out h p q r = let f : leb 1 (length counts) ≡ true = le-leb _ _ h in (rw f p, rw f r, rw (f, q) (go n))
    where
      go : (k : ℕ) → sets counts 0 (accepted k (c ∷ []) []) ≡ accepted k (sets counts 0 (c ∷ [])) counts
      go zero = refl
      go (suc k) = refl
