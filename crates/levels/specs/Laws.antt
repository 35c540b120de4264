-- Document 02, R-3: what is said of the rounded number, for every finite single, however large. Proved in proofs/RoundsProof, proofs/TurnsProof and proofs/WorkedProof.
use Rattle.std.specs.Prelude.{ℕ, ◌+◌, ◌*◌, ◌%◌, ◌≤◌, ◌≡◌, true, false, not, T, ℤ, pos, negsuc, nat_abs, ◌-ℤ◌, ◌*ℤ◌, Float}
use Rattle.std.specs.Float.{nan, inf, fin, binary32}
use Rattle.std.specs.Float.Ieee.{up, down, neg, fits, is_nan, of_bits, to_bits}
use Rattle.line.specs.Point.{coordinate_in, turned}
use Rattle.levels.specs.declared.Levels.{Levels}
use Rattle.levels.specs.Levels.{is_finite, with_sign, rounded, point_of, turned_levels, in_reach}

-- THE NEAREST WHOLE NUMBER

-- 1024 · v is numerator v / denominator v; of a NaN and an infinity, which have no value, nothing is said
abbrev pub numerator : Float → ℤ
numerator nan = pos 0
numerator (inf s) = pos 0
numerator (fin s m e) = with_sign s (1024 * (m * up e))

abbrev pub denominator : Float → ℕ
denominator nan = 1
denominator (inf s) = 1
denominator (fin s m e) = down e

-- |a - n · d|, d times how far n is from a / d
abbrev pub off : ℤ → ℕ → ℤ → ℕ
off a d n = nat_abs (a -ℤ n *ℤ pos d)

-- n is the whole number nearest a / d, ties to even
pub record NearestEven (a : ℤ) (d : ℕ) (n : ℤ) : Type 0 where
  -- "never more than half a unit from 1024 times v, stated in whole numbers"
  pub within_half : off a d n * 2 ≤ d
  pub even_at_a_tie : off a d n * 2 ≡ d → nat_abs n % 2 ≡ 0

pub record Rounds : Type 0 where
  pub is_nearest : (v : Float) → T (is_finite v) → NearestEven (numerator v) (denominator v) (rounded v)
  -- no whole number is nearer, and no other one is the nearest or the even one of two
  pub none_nearer : (v : Float) → T (is_finite v) → (n : ℤ) → off (numerator v) (denominator v) (rounded v) ≤ off (numerator v) (denominator v) n
  pub no_other : (v : Float) → T (is_finite v) → (n : ℤ) → NearestEven (numerator v) (denominator v) n → n ≡ rounded v

-- RANGE IS JUDGED AFTER ROUNDING: of a finite coordinate by number 8

abbrev pub JudgedRounded : Type 0
JudgedRounded = (v : Float) → is_finite v ≡ true → in_reach v ≡ coordinate_in (rounded v)

-- A TURN OF 90°

pub record Turns : Type 0 where
  -- "Turning by 90° before or after gives the same point."
  pub before_or_after : (p : Levels) → point_of (turned_levels p) ≡ turned (point_of p)
  -- negating flips the sign bit, of a zero too
  pub sign_bit : (v : Float) → T (fits binary32 v) → T (not (is_nan v)) → to_bits binary32 (neg v) ≡ (to_bits binary32 v + 2147483648) % 4294967296
  -- a NaN stays one, and what number 18 refuses before a turn it refuses after it
  pub of_nan : neg nan ≡ nan
  pub refused_alike : (v : Float) → is_finite (neg v) ≡ is_finite v

-- WORKED VALUES, from the bits of singles

abbrev pub units_of_bits : ℕ → ℤ
units_of_bits b = rounded (of_bits binary32 b)

pub record Worked : Type 0 where
  -- 16384.5 units tie to 16384; the next single up rounds to 16385
  pub most : (units_of_bits 0x41800100 ≡ pos 16384) × (in_reach (of_bits binary32 0x41800100) ≡ true)
  pub next_up : (units_of_bits 0x41800101 ≡ pos 16385) × (in_reach (of_bits binary32 0x41800101) ≡ false)
  -- half a unit ties to 0, the next single up rounds to 1; one and a half tie to 2
  pub half_unit : (units_of_bits 0x3a000000 ≡ pos 0) × (units_of_bits 0x3a000001 ≡ pos 1) × (units_of_bits 0x3ac00000 ≡ pos 2)
  -- a negative zero is zero, the least subnormal rounds to it, and -1.0 is -1024
  pub zeros : (units_of_bits 0x80000000 ≡ pos 0) × (units_of_bits 1 ≡ pos 0) × (units_of_bits 0xbf800000 ≡ negsuc 1023)
  -- infinities and NaNs, quiet and signalling
  pub not_finite : (is_finite (of_bits binary32 0x7f800000) ≡ false) × (is_finite (of_bits binary32 0xff800000) ≡ false) × (is_finite (of_bits binary32 0x7fc00000) ≡ false) × (is_finite (of_bits binary32 0x7f800001) ≡ false)
  -- the greatest finite single is one
  pub greatest : is_finite (of_bits binary32 0x7f7fffff) ≡ true
