-- A single's bit pattern and its value: what is finite, and the size in units by the pattern's fields. Assumes nothing.
use Prim.Native.Nat.{ℕ, zero, suc, ◌+◌, ◌*◌, ◌-◌, ◌/◌, ◌%◌, ◌^◌, ◌<◌, ◌≤◌, compare}
use mathlib.Core.Path.{◌≡◌, refl, sym, ap, ◌∙◌, subst}
use mathlib.Core.Bool.{Bool, true, false, cond, not}
use native.Mathlib.Nat.{not-suc-le-zero, le_of_suc-le-suc, mul-one, mul_assoc, mul_comm, le-div_iff_mul-le, le_trans, mul-le-mul, le-add_right, mul-le-mul_right, mul_right_comm, div-mul-le_self}
use native.Mathlib.Omega.{arith}
use borrow.Author.Tests.{leb-true}
use mathlib.Core.Logic.{⊎_elim}
use lib.Dec.{T, eqb, leb, lit≤}
use lib.IntN.{ℤ, pos, negsuc, nat_abs, neg_ℤ}
use lib.Pow.{pow-add, pow_pos, pow_mono, shl_lt, shl_exact}
use lib.Ieee.{Float, nan, inf, fin, up, down, binary32, odd, of_fields, of_bits, to_bits, fits, ne, is_nan}
use lib.Ieee.Bits.{of_bits-to_bits}
use lib.Ieee.Compare.{differs_from_itself, nan_differs}
use lib.Ieee.Nearest.{closest, closest_same, nearest-ge}
use lib.Ieee.Exact.{HasValue, odd_sign}
use mir.Syntax.{w32}
use mir.Val.{to_z}
use mir.Facts.{to_z_pos}
use Rattle.std.specs.Float.{float_is_finite}
use Rattle.line.specs.Point.{coordinate_in}
use Rattle.line.proofs.Tests.{lt_or_ge}
use Rattle.line.proofs.TableLaws.{is_true, and_left, and_right}
use Rattle.levels.specs.Levels.{is_finite, with_sign, rounded, in_reach}
use Rattle.levels.specs.Fields.{magnitude, size_of}
use Rattle.levels.proofs.NearestLaws.{closest_tiny, rounds_in_fewer, within_half}
use Rattle.levels.proofs.SignLaws.{sign_abs}

-- THE TEST OF A NUMBER

-- the library's test of a float is the one of the definitions
pub finite_law : (v : Float) → float_is_finite v ≡ is_finite v
unfolding float_is_finite is_finite
finite_law nan = refl
finite_law (inf s) = refl
finite_law (fin s m e) = refl

-- THE SIZE IN UNITS, BY THE FIELDS

small : (x t : ℕ) → x < 115 → t < 8388608 → magnitude x t < 2 ^ 138
unfolding magnitude
small zero t h k = le_trans k (pow_mono {i = 23} {j = 138} (lit≤ tt))
small (suc x) t h k =
    let lead : 8388608 + t < 2 ^ 24 = omega arith in
    let room : 24 + x ≤ 138 = omega arith in
    le_trans (shl_lt 24 x lead) (pow_mono room)

large : (x t : ℕ) → 131 < x → 2 ^ 154 ≤ magnitude x t
unfolding magnitude
large zero t h = absurd (not-suc-le-zero h)
large (suc x) t h = mul-le-mul {n₁ = 8388608} {m₁ = 2 ^ 131} {n₂ = 8388608 + t} {m₂ = 2 ^ x} (le-add_right 8388608 t) (pow_mono (le_of_suc-le-suc h))

-- from 32 levels on a size is beyond 16384
fields_large : (x t : ℕ) → 131 < x → 32768 ≤ size_of x t
unfolding size_of
fields_large x t h =
    le_trans ((le-div_iff_mul-le {k = 2 ^ 139} {x = 32768} {y = magnitude x t} (pow_pos 139)).1 (large x t h)) (nearest-ge (magnitude x t / 2 ^ 139) (compare (magnitude x t % 2 ^ 139 * 2) (2 ^ 139)))

-- below, the digits are shifted so that 2 ^ 25 make a unit
crossed : (x t : ℕ) → 115 ≤ x → (8388608 + t) * 2 ^ (x - 115) * 2 ^ 139 ≡ magnitude x t * 33554432
unfolding magnitude
crossed zero t h = absurd (not-suc-le-zero h)
crossed (suc x) t h =
    let e : suc x - 115 + 139 ≡ x + 25 = omega arith in
    mul_assoc (8388608 + t) (2 ^ (suc x - 115)) (2 ^ 139)
    ∙ ap (λ (z : ℕ). (8388608 + t) * z) (sym (pow-add 2 (suc x - 115) 139) ∙ ap (λ (z : ℕ). 2 ^ z) e ∙ pow-add 2 x 25)
    ∙ sym (mul_assoc (8388608 + t) (2 ^ x) 33554432)

shifted_size : (x t : ℕ) → t < 8388608 → closest ((8388608 + t) * 2 ^ (x - 115)) 33554432 ≡ size_of x t
unfolding size_of
shifted_size x t l = ⊎_elim below above (lt_or_ge x 115)
  where
    below : x < 115 → closest ((8388608 + t) * 2 ^ (x - 115)) 33554432 ≡ closest (magnitude x t) (2 ^ 139)
    below k =
        let z : x - 115 ≡ 0 = omega arith in
        ap (λ (i : ℕ). closest ((8388608 + t) * 2 ^ i) 33554432) z ∙ ap (λ (n : ℕ). closest n 33554432) (mul-one (8388608 + t))
        ∙ closest_tiny (8388608 + t) 16777216 (omega arith) ∙ sym (closest_tiny (magnitude x t) (2 ^ 138) (small x t k l))

    above : 115 ≤ x → closest ((8388608 + t) * 2 ^ (x - 115)) 33554432 ≡ closest (magnitude x t) (2 ^ 139)
    above k =
        closest_same ((8388608 + t) * 2 ^ (x - 115)) 33554432 (magnitude x t) (2 ^ 139) (lit≤ tt) (pow_pos 139) (crossed x t k)

-- as the code has it: of a size in reach the exponent's field in its place, and what is added before the division
module _ (n field up half : ℕ) (ef : field ≡ n - n % 8388608) (eu : up ≡ field - 964689920) (eh : half ≡ 65535 + ((8388608 + n % 8388608) % 256 + 255) / 256) (most : size_of (n / 8388608) (n % 8388608) ≤ 16384) where
  abbrev x : ℕ
  x = n / 8388608

  abbrev t : ℕ
  t = n % 8388608

  abbrev k : ℕ
  k = up / 8388608

  shift_is : k ≡ x - 115
  shift_is = omega arith

  in_reach_lem : x ≤ 131
  in_reach_lem = ⊎_elim (λ (h : 131 < x). let f = fields_large x t h in absurd (omega arith)) (λ (h : x ≤ 131). h) (lt_or_ge 131 x)

  abbrev digits : ℕ
  digits = 8388608 + t

  pub shift_fits : k ≤ 16
  shift_fits = let h = in_reach_lem in let s = shift_is in omega arith

  abbrev shifted : ℕ
  shifted = digits / 256 * 2 ^ k % 4294967296

  exact : shifted ≡ digits / 256 * 2 ^ k
  exact =
      let a : digits / 256 < 2 ^ 16 = omega arith in
      let b : 16 + k ≤ 32 = let h = shift_fits in omega arith in
      shl_exact 16 k 32 a b

  all_digits : closest (digits * 2 ^ k) 33554432 ≡ size_of x t
  all_digits = ap (λ (i : ℕ). closest (digits * 2 ^ i) 33554432) shift_is ∙ shifted_size x t (omega arith)

  -- 16384 units and a half at most, so that nothing runs over 32 bits
  pub shifted_below : shifted ≤ 2147549184
  shifted_below =
      let w : digits * 2 ^ k * 2 ≤ closest (digits * 2 ^ k) 33554432 * 33554432 * 2 + 33554432 = (within_half (digits * 2 ^ k) 33554432 (lit≤ tt)).below in
      let c : closest (digits * 2 ^ k) 33554432 ≤ 16384 = subst (λ (i : ℕ). i ≤ 16384) (sym all_digits) most in
      let a : digits / 256 * 256 * 2 ^ k ≤ digits * 2 ^ k = mul-le-mul_right (2 ^ k) (div-mul-le_self digits 256) in
      let b : digits / 256 * 256 * 2 ^ k ≡ digits / 256 * 2 ^ k * 256 = mul_right_comm (digits / 256) 256 (2 ^ k) in
      let e = exact in
      omega (arith, w, c, a, b, e)

  pub half_below : half ≤ 65536
  half_below = omega arith

  fields_rounded : (shifted + half + shifted / 131072 % 2) / 131072 ≡ size_of x t
  fields_rounded =
      ap (λ (i : ℕ). i / 131072) (let z : shifted + half + shifted / 131072 % 2 ≡ shifted + 65535 + shifted / 131072 % 2 + (digits % 256 + 255) / 256 = omega arith in z)
      ∙ ap (λ (i : ℕ). (i + 65535 + i / 131072 % 2 + (digits % 256 + 255) / 256) / 131072) exact ∙ rounds_in_fewer digits k shift_fits (omega arith) ∙ all_digits

  pub fields_units : to_z w32 ((shifted + half + shifted / 131072 % 2) / 131072) ≡ pos (size_of x t)
  fields_units = ap (to_z w32) fields_rounded ∙ to_z_pos w32 (omega (arith, most))

-- THE VALUE THAT FIELDS STAND FOR

pub down_positive : (e : ℤ) → 0 < down e
down_positive (pos k) = lit≤ tt
down_positive (negsuc k) = pow_pos (suc k)

value_of : (v : Float) (s : Bool) (a : ℕ) → HasValue v s a (2 ^ 149) → rounded v ≡ with_sign s (closest a (2 ^ 139))
unfolding rounded
value_of nan s a h = absurd h
value_of (inf t) s a h = absurd h
value_of (fin t m e) s a h =
    let n : ℕ = m * up e in
    let cross : 1024 * n * 2 ^ 139 ≡ a * down e = ap (λ (z : ℕ). z * 2 ^ 139) (mul_comm 1024 n) ∙ mul_assoc n 1024 (2 ^ 139) ∙ h.1 in
    rw (h.0, closest_same (1024 * n) (down e) a (2 ^ 139) (down_positive e) (pow_pos 139) cross)

chosen : (c d s : Bool) (y : Float) (z : ℤ) → rounded y ≡ z → is_finite (cond c (cond d (inf s) nan) y) ≡ true → rounded (cond c (cond d (inf s) nan) y) ≡ z
unfolding is_finite
chosen true true s y z e f = absurd (subst T (sym f) tt)
chosen true false s y z e f = absurd (subst T (sym f) tt)
chosen false d s y z e f = e

of_fields_lem : (s : Bool) (x t : ℕ) → is_finite (of_fields binary32 s x t) ≡ true → rounded (of_fields binary32 s x t) ≡ with_sign s (size_of x t)
unfolding of_fields magnitude size_of
of_fields_lem s zero t h = rw mul-one at (value_of (odd 24 s t 0 149) s (t * 1) (odd_sign 24 s t 0 149))
of_fields_lem s (suc x) t h =
    chosen (eqb (suc x) 255) (eqb t 0) s (odd 24 s (8388608 + t) x 149) _
    (value_of (odd 24 s (8388608 + t) x 149) s ((8388608 + t) * 2 ^ x) (odd_sign 24 s (8388608 + t) x 149)) h

-- OF A VALUE, FROM ITS BITS

pub reach_finite : (v : Float) → T (in_reach v) → is_finite v ≡ true
unfolding in_reach
reach_finite v r = is_true (is_finite v) (and_left (is_finite v) (coordinate_in (rounded v)) r)

pub reach_number : (v : Float) → T (in_reach v) → T (not (is_nan v))
unfolding in_reach is_finite is_nan
reach_number nan r = absurd r
reach_number (inf s) r = absurd r
reach_number (fin s m e) r = tt

module _ (v : Float) (f : T (fits binary32 v)) where
  abbrev pattern : ℕ
  pattern = to_bits binary32 v

  abbrev rest : ℕ
  rest = pattern % 8388608

  module _ (r : T (in_reach v)) where
    -- the size's fields, from the pattern without its sign
    abbrev sized : ℕ
    sized = size_of (pattern % 2147483648 / 8388608) (pattern % 2147483648 % 8388608)

    of_pattern : rounded v ≡ with_sign (leb 2147483648 pattern) sized
    unfolding of_bits
    of_pattern =
        ap rounded (sym (of_bits-to_bits binary32 v f))
        ∙ of_fields_lem (leb 2147483648 pattern) (pattern % 2147483648 / 8388608) rest (ap is_finite (of_bits-to_bits binary32 v f) ∙ reach_finite v r)
        ∙ ap (λ (i : ℕ). with_sign (leb 2147483648 pattern) (size_of (pattern % 2147483648 / 8388608) i)) (let e : rest ≡ pattern % 2147483648 % 8388608 = omega arith in e)

    pub size-most : sized ≤ 16384
    unfolding in_reach
    size-most =
        let l : nat_abs (rounded v) ≤ 16384 = leb-true _ _ (is_true _ (and_right (is_finite v) (coordinate_in (rounded v)) r)) in
        subst (λ (i : ℕ). i ≤ 16384) (ap nat_abs of_pattern ∙ sign_abs (leb 2147483648 pattern) sized) l

    pub units_signed : (n : ℤ) → n ≡ pos sized → cond (leb 2147483648 pattern) (neg_ℤ n) n ≡ rounded v
    units_signed n q = ap (λ (z : ℤ). cond (leb 2147483648 pattern) (neg_ℤ z) z) q ∙ sym of_pattern

    pub units_small : (n : ℤ) → n ≡ pos sized → nat_abs n ≤ 16384
    units_small n q = subst (λ (z : ℤ). nat_abs z ≤ 16384) (sym q) size-most
