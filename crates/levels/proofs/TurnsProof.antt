-- A turn of 90° before or after rounding, and what it does to a sign bit and to a NaN. Assumes nothing.
use Prim.Native.Nat.{ℕ, zero, suc, ◌+◌, ◌*◌, ◌-◌, ◌/◌, ◌%◌, ◌^◌, ◌<◌}
use mathlib.Core.Path.{◌≡◌, refl, ap}
use mathlib.Core.Bool.{Bool, true, false, not, cond}
use native.Mathlib.Nat.{add_assoc}
use native.Mathlib.Omega.{arith}
use lib.Dec.{T}
use lib.IntN.{ℤ, neg_ℤ}
use lib.Ieee.{Float, nan, inf, fin, up, down, binary32, size, neg, fits, is_nan, to_bits}
use lib.Ieee.Bits.{to_bits-lt}
use lib.Ieee.Nearest.{closest}
use Rattle.line.specs.Point.{at}
use Rattle.levels.specs.Levels.{is_finite, rounded}
use Rattle.levels.specs.Laws.{Turns}
use Rattle.levels.proofs.SignLaws.{sign_flipped}

rounded_negated : (v : Float) → rounded (neg v) ≡ neg_ℤ (rounded v)
unfolding rounded neg
rounded_negated nan = refl
rounded_negated (inf s) = refl
rounded_negated (fin s m e) = sign_flipped s (closest (1024 * (m * up e)) (down e))

finite_negated : (v : Float) → is_finite (neg v) ≡ is_finite v
unfolding is_finite neg
finite_negated nan = refl
finite_negated (inf s) = refl
finite_negated (fin s m e) = refl

nan_negated : neg nan ≡ nan
unfolding neg
nan_negated = refl

-- the pattern of either sign: the same digits, with the sign bit or without
digits : ℕ → ℤ → ℕ
unfolding size
digits m e =
    let n : ℕ = m * up e * 2 ^ 149 / down e in
    let k : ℕ = size n - 24 in
    k * 8388608 + n / 2 ^ k

pattern_of : (s : Bool) (m : ℕ) (e : ℤ) → to_bits binary32 (fin s m e) ≡ cond s 2147483648 0 + digits m e
unfolding to_bits digits
pattern_of s m e = add_assoc (cond s 2147483648 0) _ _

either_fits : (s t : Bool) (m : ℕ) (e : ℤ) → T (fits binary32 (fin s m e)) → T (fits binary32 (fin t m e))
unfolding fits
either_fits s t zero e f = f
either_fits s t (suc m) e f = f

digits-below : (s : Bool) (m : ℕ) (e : ℤ) → T (fits binary32 (fin s m e)) → digits m e < 2147483648
digits-below s m e f =
    let l : to_bits binary32 (fin true m e) < 4294967296 = to_bits-lt binary32 (fin true m e) (either_fits s true m e f) in
    let p : to_bits binary32 (fin true m e) ≡ 2147483648 + digits m e = pattern_of true m e in
    omega arith

sign_flips : (v : Float) → T (fits binary32 v) → T (not (is_nan v)) → to_bits binary32 (neg v) ≡ (to_bits binary32 v + 2147483648) % 4294967296
unfolding neg is_nan
sign_flips nan f h = absurd h
sign_flips (inf true) f h = unfold to_bits in refl
sign_flips (inf false) f h = unfold to_bits in refl
sign_flips (fin true m e) f h =
    let l = digits-below true m e f in
    rw (pattern_of true m e, pattern_of false m e) (let z : 0 + digits m e ≡ (2147483648 + digits m e + 2147483648) % 4294967296 = omega arith in z)
sign_flips (fin false m e) f h =
    let l = digits-below false m e f in
    rw (pattern_of true m e, pattern_of false m e) (let z : 2147483648 + digits m e ≡ (0 + digits m e + 2147483648) % 4294967296 = omega arith in z)

pub turns : Turns
turns =
    record {
      before_or_after = λ p. ap (λ (z : ℤ). at z (rounded p.re)) (rounded_negated p.im);
      sign_bit = sign_flips;
      of_nan = nan_negated;
      refused_alike = finite_negated;
    }
