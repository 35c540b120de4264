-- A word of decimal digits as a number: a word on a command line. What is not a digit ends it; a number above the greatest u64 counts as that one.
use Rattle.std.specs.Prelude.{ℕ, ◌+◌, ◌*◌, ◌-◌, min, Bool, ◌&&◌, cond, List, [], ◌∷◌, leb}

abbrev pub most : ℕ
most = 18446744073709551615

abbrev pub is_digit : ℕ → Bool
is_digit c = leb 48 c && leb c 57

-- n is what the digits before say
abbrev pub number_from : ℕ → List ℕ → ℕ
number_from n [] = n
number_from n (c ∷ cs) = cond (is_digit c) (number_from (min (10 * n + (c - 48)) most) cs) n

unfoldable pub number : List ℕ → ℕ
number w = number_from 0 w
