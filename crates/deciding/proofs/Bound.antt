-- The square of a small number fits 64 bits. Assumes nothing.
use Prim.Native.Nat.{ℕ, ◌*◌, ◌≤◌, ◌^◌}
use native.Mathlib.Nat.{mul-le-mul, mul-le-mul_left, lt_of_le_of_lt}
use lib.Dec.{T, ltb, ltb→lt}
use mir.Syntax.{w64}
use mir.Val.{Fits}

pub square : (b : ℕ) {x : ℕ} → T (ltb (b * b) (2 ^ 64)) → x ≤ b → Fits w64 (x * x)
square b {x} t h = record { fits = lt_of_le_of_lt (mul-le-mul h h) (ltb→lt (b * b) (2 ^ 64) t) }

pub double_square : (b : ℕ) {x : ℕ} → T (ltb (2 * (b * b)) (2 ^ 64)) → x ≤ b → Fits w64 (2 * (x * x))
double_square b {x} t h = record { fits = lt_of_le_of_lt (mul-le-mul_left 2 (mul-le-mul h h)) (ltb→lt (2 * (b * b)) (2 ^ 64) t) }
