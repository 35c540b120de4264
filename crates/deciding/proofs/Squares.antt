-- No square of a whole number but 0 is twice another. Assumes nothing.
use mathlib.Core.Path.{◌≡◌, sym}
use mathlib.Core.Logic.{⊎_elim}
use Prim.Native.Nat.{ℕ, zero, suc, ◌+◌, ◌*◌, ◌/◌, ◌%◌, ◌<◌, ◌≤◌}
use native.Mathlib.Omega.{arith}
use native.Mathlib.Nat.{mul-add, add-mul, mul-le-mul, mul-mul-mul_comm, mul-pos, eq-or-lt_of_le}
use native.Mathlib.Decide.{dec_le}

sq_double : (q : ℕ) → (q * 2) * (q * 2) ≡ q * q * 4
sq_double q = mul-mul-mul_comm q 2 q 2

sq-odd : (q : ℕ) → (q * 2 + 1) * (q * 2 + 1) ≡ (q * q * 2 + q * 2) * 2 + 1
sq-odd q =
    let s : (q * 2) * (q * 2) ≡ q * q * 4 = sq_double q in
    simp (mul-add, add-mul) (omega arith)

less : (x y : ℕ) → x * x ≡ 2 * (y * y) → 0 < y → Dec (x ≤ y) → y < x
less x y e p (yes k) =
    let m : x * x ≤ y * y = mul-le-mul k k in
    let w : 0 < y * y = mul-pos p p in
    omega arith
less x y e p (no k) = omega (arith, k)

-- x is even, and then its half and y are a smaller pair; or odd, and then so is its square
parity : (n x y q r : ℕ) → ((a b : ℕ) → a ≤ n → a * a ≡ 2 * (b * b) → 0 < b → ⊥) → x ≤ suc n → x * x ≡ 2 * (y * y) → 0 < y → y < x
    → x ≡ q * 2 + r → r < 2 → ⊥
parity n x y q zero ih h e p l a b =
    let a' : x ≡ q * 2 = omega arith in
    let f : (q * 2) * (q * 2) ≡ 2 * (y * y) = rw a' at e in
    let s : (q * 2) * (q * 2) ≡ q * q * 4 = sq_double q in
    ih y q (omega arith) (omega arith) (omega arith)
parity n x y q (suc zero) ih h e p l a b =
    let f : (q * 2 + 1) * (q * 2 + 1) ≡ 2 * (y * y) = rw a at e in
    let s : (q * 2 + 1) * (q * 2 + 1) ≡ (q * q * 2 + q * 2) * 2 + 1 = sq-odd q in
    omega arith
parity n x y q (suc (suc r)) ih h e p l a b = omega arith

descent : (n x y : ℕ) → x ≤ n → x * x ≡ 2 * (y * y) → 0 < y → ⊥
descent zero x y h e p =
    let x0 : x ≡ 0 = omega arith in
    let z : 0 * 0 ≡ 2 * (y * y) = rw x0 at e in
    let w : 0 < y * y = mul-pos p p in
    omega arith
descent (suc n) x y h e p =
    parity n x y (x / 2) (x % 2) (descent n) h e p (less x y e p (dec_le x y)) (omega arith) (omega arith)

pub no_double_square : (x y : ℕ) → x * x ≡ 2 * (y * y) → 0 < y → ⊥
no_double_square x y e p = descent x x y (omega arith) e p

pub strict : (x y : ℕ) → 0 < x → 2 * (y * y) ≤ x * x → 2 * (y * y) < x * x
strict x zero p h = let w : 0 < x * x = mul-pos p p in omega arith
strict x (suc y) p h =
    let ne : x * x ≡ 2 * (suc y * suc y) → ⊥ = λ e. no_double_square x (suc y) e (omega arith) in
    ⊎_elim (λ (e : 2 * (suc y * suc y) ≡ x * x). absurd (ne (sym e))) (λ l. l) (eq-or-lt_of_le h)
