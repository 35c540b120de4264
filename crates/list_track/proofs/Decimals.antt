-- The digits that a listing has are those that the toolchain's io library gives a number. Assumes nothing.
use Prim.Native.Nat.{ℕ, zero, suc, ◌+◌, ◌-◌, ◌*◌, ◌/◌, ◌%◌, ◌^◌, ◌≤◌, ◌<◌}
use mathlib.Core.Path.{◌≡◌, sym, ap, ap₂, ◌∙◌, subst}
use mathlib.Core.Bool.{Bool, cond}
use mathlib.Core.List.{List, [], ◌∷◌, ◌++◌}
use native.Mathlib.Omega.{arith}
use native.Mathlib.Nat.{pow-suc}
use borrow.Author.Tests.{lt-ltb, le-ltb}
use Rattle.io.specs.Digits.{hex_digit_ascii, IsDigitCount}
use Rattle.io.specs.Digits.{last_digits as ioDigits}
use Rattle.listing.specs.Text.{digits, decimal}
use Rattle.list_track.specs.Decimals.{IoDecimal}

digit : (d : ℕ) → d < 10 → 48 + d ≡ hex_digit_ascii d
digit d h = sym (ap (λ (b : Bool). cond b (48 + d) (87 + d)) (lt-ltb d 10 h))

-- k is the fewest digits that hold n, and f of them are at hand
same : (f k n : ℕ) → k ≤ f → IsDigitCount 10 1 n k → digits f n ≡ ioDigits 10 k n
same f zero n h e = absurd (omega (arith, e.0))
same zero (suc k) n h e = absurd (omega arith)
same (suc f) (suc zero) n h e =
    let small : n < 10 = omega (arith, e.1) in
    let last : n % 10 ≡ n = omega arith in
    ap (λ (b : Bool). cond b ((48 + n) ∷ []) (digits f (n / 10) ++ ((48 + n % 10) ∷ []))) (lt-ltb n 10 small)
    ∙ ap (λ (x : ℕ). x ∷ []) (digit n small ∙ ap hex_digit_ascii (sym last))
same (suc f) (suc (suc k)) n h e =
    let p : 10 ^ suc (suc k) ≡ 10 ^ suc k * 10 = pow-suc 10 (suc k) in
    let q : 10 ^ suc k ≡ 10 ^ k * 10 = pow-suc 10 k in
    let s : suc (suc k) - 1 ≡ suc k = omega arith in
    let t : suc k - 1 ≡ k = omega arith in
    let low : 10 ^ suc k ≤ n = subst (λ (m : ℕ). 10 ^ m ≤ n) s (e.2 (omega arith)) in
    let rest : 10 ^ k ≤ n / 10 = omega (arith, low, q) in
    let one : 1 ≤ 10 ^ k = positive k in
    let shorter : IsDigitCount 10 1 (n / 10) (suc k) = (omega arith, omega (arith, e.1, p), λ (z : 1 < suc k). subst (λ (m : ℕ). 10 ^ m ≤ n / 10) (sym t) rest) in
    ap (λ (b : Bool). cond b ((48 + n) ∷ []) (digits f (n / 10) ++ ((48 + n % 10) ∷ []))) (le-ltb n 10 (omega (arith, low, q, one)))
    ∙ ap₂ (λ (l : List ℕ) (x : ℕ). l ++ (x ∷ [])) (same f (suc k) (n / 10) (omega arith) shorter) (digit (n % 10) (omega arith))
  where
    positive : (k : ℕ) → 1 ≤ 10 ^ k
    positive zero = omega arith
    positive (suc k) = omega (arith, pow-suc 10 k, positive k)

pub io_decimal : IoDecimal
unfolding decimal
io_decimal n k h e = same 10 k n h e
