-- A place's decimal digits as `io::decimal` writes them. Assumes nothing.
use Prim.Native.Nat.{ℕ, zero, suc, ◌+◌, ◌-◌, ◌*◌, ◌/◌, ◌%◌, ◌^◌, ◌≤◌, ◌<◌}
use mathlib.Core.Path.{◌≡◌, refl, ap₂}
use mathlib.Core.List.{List, [], ◌∷◌, ◌++◌}
use native.Mathlib.Nat.{pow-suc, pow-le-pow_right}
use native.Mathlib.Numerals.{unary_clauses}
use native.Mathlib.Omega.{arith}
use borrow.Author.Tests.{lt-ltb, le-ltb, leb-true, leb-false}
use lib.Dec.{leb}
use Rattle.io.specs.Digits.{hex_digit_ascii, IsDigitCount}
use Rattle.io.specs.Digits.{last_digits as written}
use Rattle.line.proofs.Tests.{by_test}
use Rattle.verdicts.specs.Verdicts.{digits, decimal}

-- the last digit
last : (n : ℕ) → hex_digit_ascii (n % 10) ≡ 48 + n % 10
last n = rw (lt-ltb (n % 10) 10 (omega arith)) refl

-- a number that has two digits or more, and without its last digit
module _ (k n : ℕ) (w : IsDigitCount 10 1 n (suc (suc k))) where
  lower : 10 ^ k * 10 ≤ n
  lower = simp unary_clauses at (w.2 (omega arith))

  more : 10 ≤ n
  more = omega (arith, lower, pow-le-pow_right {n = 10} (omega arith) {i = 0} {j = k} (omega arith))

  one_less : IsDigitCount 10 1 (n / 10) (suc k)
  one_less = (omega arith, omega (arith, pow-suc 10 (suc k)), λ h. simp unary_clauses (omega (arith, lower)))

digits_written : (k f n : ℕ) → IsDigitCount 10 1 n k → k ≤ f → written 10 k n ≡ digits f n
digits_written zero f n w h = absurd (omega arith)
digits_written (suc k) zero n w h = absurd (omega arith)
digits_written (suc zero) (suc f) n w h =
    let small : n < 10 = w.1 in
    let same : n % 10 ≡ n = omega arith in
    rw (lt-ltb n 10 small, same, lt-ltb n 10 small) refl
digits_written (suc (suc k)) (suc f) n w h =
    rw (le-ltb n 10 (more k n w)) (ap₂ (λ (l : List ℕ) (d : ℕ). l ++ (d ∷ [])) (digits_written (suc k) f (n / 10) (one_less k n w) (omega arith)) (last n))

-- twenty are enough
module _ (n k : ℕ) (w : IsDigitCount 10 1 n k) (h : n < 18446744073709551616) where
  pub twenty : k ≤ 20
  twenty = by_test (leb k 20) (leb-true k 20) (λ e. let m = leb-false k 20 e in absurd (omega (arith, w.2 (omega arith), pow-le-pow_right {n = 10} (omega arith) {i = 20} {j = k - 1} (omega arith))))

  pub decimal_written : written 10 k n ≡ decimal n
  unfolding decimal
  decimal_written = digits_written k 20 n w twenty
