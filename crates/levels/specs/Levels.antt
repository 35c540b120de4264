-- Document 02, R-3: "a point as two f32 in levels". A single is the library's `Float`: a NaN, an infinity, or ± m · 2 ^ e, where 2 ^ e
-- is up e / down e.
use Rattle.std.specs.Prelude.{ℕ, ◌*◌, Bool, true, false, ◌&&◌, cond, ℤ, pos, neg_ℤ, Float}
use Rattle.std.specs.Float.{nan, inf, fin}
use Rattle.std.specs.Float.Ieee.{up, down, neg}
use Rattle.std.specs.Float.Ieee.Nearest.{closest}
use Rattle.line.specs.declared.Point.{Point}
use Rattle.line.specs.Point.{at, coordinate_in}
use Rattle.levels.specs.declared.Levels.{Levels}

-- number 18: "a NaN or infinite coordinate or power"
unfoldable pub is_finite : Float → Bool
is_finite nan = false
is_finite (inf s) = false
is_finite (fin s m e) = true

-- a size with a sign, negative where it is true
abbrev pub with_sign : Bool → ℕ → ℤ
with_sign s n = cond s (neg_ℤ (pos n)) (pos n)

-- "A coordinate v becomes the whole number nearest 1024 times v, ties to even.": of ± 1024 · m · up e / down e. A NaN and an infinity
-- have none; the 0 here is never used, since number 18 refuses them
unfoldable pub rounded : Float → ℤ
rounded nan = pos 0
rounded (inf s) = pos 0
rounded (fin s m e) = with_sign s (closest (1024 * (m * up e)) (down e))

-- the point that a point in levels becomes
abbrev pub point_of : Levels → Point
point_of p = at (rounded p.re) (rounded p.im)

-- "a turn of 90° takes (re, im) to (-im, re)" (document 01), in levels. Negating flips the sign, of a zero too; a NaN stays one.
abbrev pub turned_levels : Levels → Levels
turned_levels p = record { re = neg p.im; im = p.re }

-- neither number 18 nor number 8 refuses a coordinate. "Coordinates that round beyond 16384 meet number 8."
unfoldable pub in_reach : Float → Bool
in_reach v = is_finite v && coordinate_in (rounded v)
