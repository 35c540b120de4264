-- For the contracts of private functions only. How the code divides: a register of 16 bits, held as a number. Nobody need believe this
-- file: the laws `register-remainder` and `check_register` of proofs/RegisterLaws say that it gives what the division of specs/Polynomial
-- leaves, and `eight_law` of proofs/EightLaws that eight bits at once are eight one by one.
use Rattle.std.specs.Prelude.{ℕ, ◌+◌, ◌*◌, ◌-◌, ◌/◌, ◌%◌, cond, List, [], ◌∷◌, ltb}
use Rattle.std.specs.Int.Bits.{bit_xor}

-- a bit shifted in; where a 1 is shifted out, x^12 + x^5 + 1 is added
unfoldable pub next : ℕ → ℕ → ℕ
next r b = cond (ltb (2 * r + b) 65536) (2 * r + b) (bit_xor (2 * r + b - 65536) 0x1021)

-- bits shifted in one after the other
abbrev pub register : ℕ → List ℕ → ℕ
register r [] = r
register r (b ∷ bs) = register (next r b) bs

-- eight bits at once, as a number: the upper eight are shifted out together, and what the division leaves of them is added
unfoldable pub folded : ℕ → ℕ
folded h = let x : ℕ = bit_xor h (h / 16) in bit_xor (bit_xor (x * 4096) (x * 32)) x % 65536

unfoldable pub next_eight : ℕ → ℕ → ℕ
next_eight r v = bit_xor (folded (r / 256)) (r % 256 * 256 + v)
