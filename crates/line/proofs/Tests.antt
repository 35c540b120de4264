-- The tests of a branch, for `search`: a definition that goes by `leb`, `ltb`, `eqb` or by the mode takes the way that the code took.
-- And cases on a test, and tests joined. Assumes nothing.
use Prim.Native.Nat.{ℕ, ◌≤◌, ◌<◌}
use mathlib.Core.Path.{◌≡◌, refl, ap}
use mathlib.Core.Logic.{◌⊎◌, inl, inr}
use mathlib.Core.Bool.{Bool, true, false, ◌&&◌, cond, false≢true}
use lib.Dec.{ltb}
use borrow.Author.Rules.{rules}
use borrow.Author.Tests.{le-leb, lt-leb, eq-eqb, ne_eqb, lt-ltb, le-ltb, ltb-true, ltb-false}
use Rattle.line.proofs.ByMode.{mode_1, mode_2, mode_3, mode_4, mode_short, mode_long}

pub cond-true : {A : Type 0} (b : Bool) (x y : A) → b ≡ true → cond b x y ≡ x
cond-true b x y e = ap (λ (t : Bool). cond t x y) e

pub cond-false : {A : Type 0} (b : Bool) (x y : A) → b ≡ false → cond b x y ≡ y
cond-false b x y e = ap (λ (t : Bool). cond t x y) e

-- by cases on a test, with its value
pub by_test : {A : Type 0} (b : Bool) → (b ≡ true → A) → (b ≡ false → A) → A
by_test true t e = t refl
by_test false t e = e refl

pub lt_or_ge : (m n : ℕ) → (m < n) ⊎ (n ≤ m)
lt_or_ge m n = by_test (ltb m n) (λ e. inl (ltb-true m n e)) (λ e. inr (ltb-false m n e))

pub and_split : (a b : Bool) → (a && b) ≡ true → (a ≡ true) × (b ≡ true)
and_split true b e = (refl, e)
and_split false b e = absurd (false≢true e)

pub and_join : (a b : Bool) → a ≡ true → b ≡ true → (a && b) ≡ true
and_join true b p q = q
and_join false b p q = p

pub ruleset tests =
    (rules, le-leb, lt-leb, eq-eqb, ne_eqb, lt-ltb, le-ltb, cond-true, cond-false, mode_1, mode_2, mode_3, mode_4, mode_short, mode_long)
