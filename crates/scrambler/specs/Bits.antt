-- A group of bits as a list and as a number: the leftmost bit, first in time, is the highest (document 01, "Differential code").
use Rattle.std.specs.Prelude.{ℕ, zero, suc, ◌+◌, ◌*◌, ◌^◌, ◌/◌, ◌%◌, Bool, List, [], ◌∷◌, ltb, length}

unfoldable pub is_bit : ℕ → Bool
is_bit b = ltb b 2

-- the lowest w bits of a number, the highest of them first
abbrev pub bits : ℕ → ℕ → List ℕ
bits zero g = []
bits (suc w) g = g / 2 ^ w % 2 ∷ bits w g

-- the number that bits are, the highest first
abbrev pub value : List ℕ → ℕ
value [] = 0
value (b ∷ bs) = b * 2 ^ length bs + value bs
