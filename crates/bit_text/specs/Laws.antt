-- What is shown of a text's bits. The proofs are `in_blocks`, `of_bits_lem` and `fits` of proofs/TextLaws and `worked` of proofs/Example.
use Rattle.std.specs.Prelude.{ℕ, ◌≤◌, ◌≡◌, true, false, List, [], ◌∷◌, ◌++◌, Ok, Err, T, length}
use Rattle.line.specs.Table.{every}
use Rattle.scrambler.specs.Bits.{is_bit}
use Rattle.line.specs.declared.refusal.Refusal.TheVariants.{Lent}
use Rattle.bit_text.specs.BitText.{bits_in, whole, text_answer, text_bytes}

-- a text that comes in two blocks: the bits of the first and then those of the second, unless a character in the first ended it
pub record Joined (a b : List ℕ) : Type 0 where
  pub bits_on : whole a ≡ true → bits_in (a ++ b) ≡ bits_in a ++ bits_in b
  pub whole_on : whole a ≡ true → whole (a ++ b) ≡ whole b
  pub bits_ended : whole a ≡ false → bits_in (a ++ b) ≡ bits_in a
  pub whole_ended : whole a ≡ false → whole (a ++ b) ≡ false

abbrev pub InBlocks : Type 0
InBlocks = (a b : List ℕ) → Joined a b

-- each is 0 or 1
abbrev pub OfBits : Type 0
OfBits = (text : List ℕ) → T (every is_bit (bits_in text))

-- the lent bytes of an accepted call hold them all
abbrev pub Fits : Type 0
Fits = (text : List ℕ) → length (bits_in text) ≤ length text

-- worked values: `1 0` and a line end into four lent bytes; `1x0`; three characters and two lent bytes
pub record Worked : Type 0 where
  pub told : text_answer (49 ∷ 32 ∷ 48 ∷ 10 ∷ []) 4 ≡ Ok (record { count = 2; whole = true })
  pub written : text_bytes (49 ∷ 32 ∷ 48 ∷ 10 ∷ []) (9 ∷ 9 ∷ 9 ∷ 9 ∷ []) ≡ 1 ∷ 0 ∷ 9 ∷ 9 ∷ []
  pub ended : text_answer (49 ∷ 120 ∷ 48 ∷ []) 4 ≡ Ok (record { count = 1; whole = false })
  pub too_few : text_answer (49 ∷ 32 ∷ 48 ∷ []) 2 ≡ Err Lent
