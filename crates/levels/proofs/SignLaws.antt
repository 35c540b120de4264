-- Sizes with a sign, and how far whole numbers are apart. Assumes nothing.
use Prim.Native.Nat.{ℕ, zero, suc, ◌+◌, ◌*◌, ◌-◌, ◌<◌, ◌≤◌}
use mathlib.Core.Path.{◌≡◌, refl, sym, ap, ◌∙◌, subst}
use mathlib.Core.Logic.{⊎_elim}
use mathlib.Core.Bool.{Bool, true, false, not, cond}
use native.Mathlib.Omega.{arith}
use borrow.Author.Tests.{le-leb, lt-leb}
use lib.IntN.{ℤ, pos, negsuc, neg_ℤ, nat_abs, sub_ℕ, ◌+ℤ◌, ◌-ℤ◌, ◌*ℤ◌, neg_ℤ-neg_ℤ, neg_ℤ-+ℤ, +ℤ_idl}
use mir.Syntax.{w32}
use mir.Val.{SFits, to_z, of_z}
use mir.Facts.{to_z-of_z}
use Rattle.line.proofs.Tests.{lt_or_ge}
use Rattle.levels.specs.Levels.{with_sign}
use Rattle.levels.specs.Laws.{off}

pub abs_negated : (z : ℤ) → nat_abs (neg_ℤ z) ≡ nat_abs z
abs_negated (pos zero) = refl
abs_negated (pos (suc n)) = refl
abs_negated (negsuc n) = refl

pub sign_flipped : (s : Bool) (n : ℕ) → with_sign (not s) n ≡ neg_ℤ (with_sign s n)
sign_flipped true n = sym (neg_ℤ-neg_ℤ (pos n))
sign_flipped false n = refl

pub sign_abs : (s : Bool) (n : ℕ) → nat_abs (with_sign s n) ≡ n
sign_abs true n = abs_negated (pos n)
sign_abs false n = refl

-- off is the same for both signs
times_negated : (n : ℤ) (d : ℕ) → neg_ℤ n *ℤ pos d ≡ neg_ℤ (n *ℤ pos d)
times_negated (pos zero) d = let z : 0 * d ≡ 0 = omega arith in ap pos z ∙ sym (ap (λ (n : ℕ). neg_ℤ (pos n)) z)
times_negated (pos (suc n)) d = refl
times_negated (negsuc n) d = sym (neg_ℤ-neg_ℤ (pos (suc n * d)))

pub off_negated : (a : ℤ) (d : ℕ) (n : ℤ) → off (neg_ℤ a) d (neg_ℤ n) ≡ off a d n
off_negated a d n =
    ap (λ (z : ℤ). nat_abs (neg_ℤ a -ℤ z)) (times_negated n d) ∙ ap nat_abs (sym (neg_ℤ-+ℤ a (neg_ℤ (n *ℤ pos d)))) ∙ abs_negated (a -ℤ n *ℤ pos d)

-- of a number from 0 on: to one from 0 on, and to one below
subtracted : (x y : ℕ) → nat_abs (sub_ℕ x y) ≡ (x - y) + (y - x)
subtracted x y = ⊎_elim less more (lt_or_ge x y)
  where
    less : x < y → nat_abs (sub_ℕ x y) ≡ (x - y) + (y - x)
    less l = ap (λ (b : Bool). nat_abs (cond b (negsuc (y - suc x)) (pos (x - y)))) (le-leb (suc x) y l) ∙ (let e : suc (y - suc x) ≡ (x - y) + (y - x) = omega arith in e)

    more : y ≤ x → nat_abs (sub_ℕ x y) ≡ (x - y) + (y - x)
    more l = ap (λ (b : Bool). nat_abs (cond b (negsuc (y - suc x)) (pos (x - y)))) (lt-leb (suc x) y (omega arith)) ∙ (let e : x - y ≡ (x - y) + (y - x) = omega arith in e)

apart : (x y : ℕ) → nat_abs (pos x -ℤ pos y) ≡ (x - y) + (y - x)
apart x zero = let e : x + 0 ≡ (x - 0) + (0 - x) = omega arith in e
apart x (suc y) = subtracted x (suc y)

pub off_above : (a d k : ℕ) → off (pos a) d (pos k) ≡ (a - k * d) + (k * d - a)
off_above a d k = apart a (k * d)

pub off-below : (a d k : ℕ) → off (pos a) d (negsuc k) ≡ a + suc k * d
off-below a d k = ap (λ (z : ℤ). nat_abs (pos a +ℤ z)) (neg_ℤ-neg_ℤ (pos (suc k * d)))

-- AS THE CODE NEGATES

small_fits : (z : ℤ) → nat_abs z ≤ 16384 → SFits w32 z
small_fits (pos n) l = record { sfits = omega arith }
small_fits (negsuc n) l = record { sfits = omega arith }

module _ (n : ℤ) (l : nat_abs n ≤ 16384) where
  pub n_back : to_z w32 (of_z w32 n) ≡ n
  n_back = to_z-of_z {w = w32} (small_fits n l)

  minus_is : pos 0 -ℤ to_z w32 (of_z w32 n) ≡ neg_ℤ n
  minus_is = ap (λ (z : ℤ). pos 0 -ℤ z) n_back ∙ +ℤ_idl (neg_ℤ n)

  pub minus_fits : SFits w32 (pos 0 -ℤ to_z w32 (of_z w32 n))
  minus_fits = subst (λ (z : ℤ). SFits w32 z) (sym minus_is) (small_fits (neg_ℤ n) (subst (λ (i : ℕ). i ≤ 16384) (sym (abs_negated n)) l))

  pub minus_back : to_z w32 (of_z w32 (pos 0 -ℤ to_z w32 (of_z w32 n))) ≡ neg_ℤ n
  minus_back = to_z-of_z {w = w32} minus_fits ∙ minus_is
