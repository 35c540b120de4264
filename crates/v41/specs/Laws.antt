-- Document 02, R-7: what is shown of `check` and `make`, "for all four sizes by one argument". The proofs are `making`, `refusing`, `detecting`,
-- `determining`, `determining_any` and `dividing` of proofs/Theorems and `worked` of proofs/Examples.
use Rattle.std.specs.Prelude.{ℕ, ◌+◌, ◌≤◌, ◌<◌, ◌≡◌, ◌⊎◌, ◌↔◌, true, false, List, [], ◌∷◌, ◌++◌, Ok, Err, T, length, get_or, take, drop, replicate}
use Rattle.line.specs.declared.refusal.Refusal.{Refusal}
use Rattle.line.specs.declared.refusal.Refusal.TheVariants.{Bit, BlockSize}
use Rattle.line.specs.Table.{every}
use Rattle.scrambler.specs.Bits.{is_bit, bits}
use Rattle.v41.specs.Polynomial.{remainder, product}
use Rattle.v41.specs.Block.{generator, leaves_nothing, check_bits, block, check_answer, make_answer, make_bytes}

-- "what it makes begins with the bits given and is accepted"; "Lent bytes beyond what a call writes .. stay as they were"
pub record MadeWell (given out : List ℕ) (n : ℕ) : Type 0 where
  pub size : n ≡ length given + 16
  pub begins : take (length given) (make_bytes given out) ≡ given
  pub whole : check_answer (take n (make_bytes given out)) ≡ Ok true
  pub beyond : drop n (make_bytes given out) ≡ drop n out
  pub lent : length (make_bytes given out) ≡ length out

abbrev pub Making : Type 0
Making = (given out : List ℕ) (n : ℕ) → make_answer given (length out) ≡ Ok n → MadeWell given out n

-- a refusal leaves all lent bytes
abbrev pub Refusing : Type 0
Refusing = (given out : List ℕ) (e : Refusal) → make_answer given (length out) ≡ Err e → make_bytes given out ≡ out

-- "altered only within a run of 16 bits, in at least one of them"
pub record Altered (b b' : List ℕ) : Type 0 where
  pub length_kept : length b ≡ length b'
  pub run : ℕ
  pub outside : (i : ℕ) → (i < run) ⊎ (run + 16 ≤ i) → get_or b i 0 ≡ get_or b' i 0
  pub place : ℕ
  pub changed : get_or b place 0 ≡ get_or b' place 0 → ⊥

-- "an accepted block .. is never accepted"; where it is still of bits it is answered as broken
pub record NotAccepted (b' : List ℕ) : Type 0 where
  pub never : check_answer b' ≡ Ok true → ⊥
  pub broken : T (every is_bit b') → check_answer b' ≡ Ok false

abbrev pub Detecting : Type 0
Detecting = (b b' : List ℕ) → check_answer b ≡ Ok true → Altered b b' → NotAccepted b'

-- the check bits are the only ones that make a block accepted, so that nobody need believe how they are computed
abbrev pub Determining : Type 0
Determining = (given c : List ℕ) → length c ≡ 16 → check_answer (given ++ c) ≡ Ok true → c ≡ check_bits given

-- and of any length the only 16 bits behind the given ones that leave nothing
abbrev pub DeterminingAny : Type 0
DeterminingAny =
    (given c : List ℕ) → T (every is_bit given) → T (every is_bit c) → length c ≡ 16 → leaves_nothing (given ++ c) ≡ true → c ≡ check_bits given

-- "leaves nothing when divided" as divisibility: of 16 bits or more it holds of the multiples of the generator and of nothing else
pub record Multiple (l : List ℕ) : Type 0 where
  pub quotient : List ℕ
  pub of_bits_lem : T (every is_bit quotient)
  pub is : l ≡ product quotient generator

abbrev pub Dividing : Type 0
Dividing = (l : List ℕ) → T (every is_bit l) → 16 ≤ length l → (leaves_nothing l ≡ true) ↔ Multiple l

-- worked values
pub record Worked : Type 0 where
  -- V.41, 5.1 and Appendix I: the synchronizing pattern is the check bits of 0101
  pub of_0101 : check_bits (0 ∷ 1 ∷ 0 ∷ 1 ∷ []) ≡ 0 ∷ 1 ∷ 0 ∷ 1 ∷ 0 ∷ 0 ∷ 0 ∷ 0 ∷ 1 ∷ 0 ∷ 1 ∷ 0 ∷ 0 ∷ 1 ∷ 0 ∷ 1 ∷ []
  -- those of "123456789", eight bits a character, highest first
  pub of_digits : check_bits (bits 72 0x313233343536373839) ≡ bits 16 0x31C3
  -- the printed text, by which the given bits go down to the power 0: what x^16 leaves, behind x^16, is no block that leaves nothing
  pub as_printed : leaves_nothing (1 ∷ replicate 16 0 ++ remainder generator (1 ∷ replicate 16 0)) ≡ false
  -- blocks of 260 bits: 0101, zeros and their check bits; a one and zeros; a byte above 1; and that byte in bits of another size
  pub whole : check_answer (block (0 ∷ 1 ∷ 0 ∷ 1 ∷ replicate 240 0)) ≡ Ok true
  pub broken : check_answer (1 ∷ replicate 259 0) ≡ Ok false
  pub above_1 : check_answer (2 ∷ replicate 259 0) ≡ Err Bit
  pub another_size : check_answer (2 ∷ replicate 260 0) ≡ Err BlockSize
