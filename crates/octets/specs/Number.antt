-- Document 01, "Track store": numbers little-endian; a coordinate is a signed 16-bit number.
use Rattle.std.specs.Prelude.{Bool, true, ◌&&◌, cond, List, [], ◌∷◌, ◌++◌, ℕ, ◌+◌, ◌*◌, ◌-◌, ◌/◌, ◌%◌, eqb, ltb, ℤ, pos, negsuc, get_or}

-- the number in two bytes, and in four, from the place `at` on; a byte past the end counts as 0
abbrev pub u16 : List ℕ → ℕ → ℕ
u16 s at = get_or s at 0 + 256 * get_or s (at + 1) 0

abbrev pub u32 : List ℕ → ℕ → ℕ
u32 s at = u16 s at + 65536 * u16 s (at + 2)

-- the two bytes of a number, and the four
abbrev pub le16 : ℕ → List ℕ
le16 v = v % 256 ∷ v / 256 % 256 ∷ []

abbrev pub le32 : ℕ → List ℕ
le32 v = le16 (v % 65536) ++ le16 (v / 65536)

-- two's complement: a signed number as a number below 65536, and back
unfoldable pub pattern : ℤ → ℕ
pattern (pos n) = n
pattern (negsuc n) = 65535 - n

unfoldable pub signed : ℕ → ℤ
signed u = cond (ltb u 32768) (pos u) (negsuc (65535 - u))

-- the signed number in two bytes from the place `at` on, and its two bytes
abbrev pub i16 : List ℕ → ℕ → ℤ
i16 s at = signed (u16 s at)

abbrev pub le_i16 : ℤ → List ℕ
le_i16 x = le16 (pattern x)

-- every byte is zero
abbrev pub zeros : List ℕ → Bool
zeros [] = true
zeros (b ∷ bs) = eqb b 0 && zeros bs
