-- For the contracts of private functions only. How the code mixes a group at once: w is at most a, so that no bit of a group depends on
-- another of the same group; and how the guard goes along a group, given which of its bits differ from all three.
-- Nobody need believe this file: the laws `scramble_at_once` and `unmixed_at_once` of proofs/WindowLaws say that it is `scramble`
-- and what `descramble` xors.
use Rattle.std.specs.Prelude.{ℕ, ◌+◌, ◌-◌, ◌^◌, ◌/◌, ◌%◌, min, ◌&&◌, ◌||◌, cond, List, [], ◌∷◌, eqb, leb}
use Rattle.std.specs.Int.Bits.{bit_and, bit_xor}
use Rattle.line.specs.Mode.{width, far_tap, guarded, capacity}
use Rattle.scrambler.specs.Register.{near_tap}

-- the bits of a group xor those a and R back, after the line bits n; the lowest w count
unfoldable pub mixed_at_once : ℕ → ℕ → ℕ → ℕ → ℕ
mixed_at_once m role n x = bit_xor (bit_xor x (n / 2 ^ (near_tap m role - width m))) (n / 2 ^ (far_tap m - width m)) % 2 ^ width m

-- those that differ from all three line bits 8, 9 and 12 back
unfoldable pub differ_at_once : ℕ → ℕ → ℕ → ℕ
differ_at_once w n y = bit_and (bit_and (bit_xor y (n / 2 ^ (8 - w))) (bit_xor y (n / 2 ^ (9 - w)))) (bit_xor y (n / 2 ^ (12 - w)))

-- after k line bits and with the count c: whether the next one is inverted, and the count after it, 1 being one that differs
abbrev pub inversion : ℕ → ℕ → ℕ → ℕ
inversion m k c = cond ((guarded m && leb (capacity m) k) && leb 33 c) 1 0

abbrev pub counted : ℕ → ℕ → ℕ → ℕ → ℕ
counted m k c e = cond (guarded m && leb (capacity m) k) (cond (leb 33 c || eqb e 1) 0 (c + 1)) 0

-- the same along a group
abbrev pub inversions : ℕ → ℕ → ℕ → List ℕ → List ℕ
inversions m k c [] = []
inversions m k c (e ∷ es) = inversion m k c ∷ inversions m (min (k + 1) (capacity m)) (counted m k c e) es

abbrev pub count_over : ℕ → ℕ → ℕ → List ℕ → ℕ
count_over m k c [] = c
count_over m k c (e ∷ es) = count_over m (min (k + 1) (capacity m)) (counted m k c e) es
