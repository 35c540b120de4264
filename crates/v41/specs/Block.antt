-- Document 02, R-7, and Recommendation V.41, 1 and 2: blocks of 260, 500, 980 or 3860 bits, their 16 check bits, and what `check` and `make` refuse
-- and answer. A bit stands in a byte.
use Rattle.std.specs.Prelude.{ℕ, ◌+◌, ◌≡◌, Bool, false, List, [], ◌∷◌, ◌++◌, Result, Ok, Err, leb, length, replicate}
use Rattle.std.proofs.lemmas.List.Edits.{sets}
use Rattle.line.specs.Table.{member, every}
use Rattle.line.specs.declared.refusal.Refusal.{Refusal}
use Rattle.line.specs.Refusal.{numbered, answered, need, or_next, accepted}
use Rattle.scrambler.specs.Bits.{is_bit}
use Rattle.octets.specs.Number.{zeros}
use Rattle.v41.specs.Polynomial.{remainder}

-- "blocks of 260, 500, 980 or 3860 bits"
unfoldable pub sizes : List ℕ
sizes = 260 ∷ 500 ∷ 980 ∷ 3860 ∷ []

unfoldable pub is_size : ℕ → Bool
is_size n = member n sizes

-- x^16 + x^12 + x^5 + 1
unfoldable pub generator : List ℕ
generator = 1 ∷ 0 ∷ 0 ∷ 0 ∷ 1 ∷ 0 ∷ 0 ∷ 0 ∷ 0 ∷ 0 ∷ 0 ∷ 1 ∷ 0 ∷ 0 ∷ 0 ∷ 0 ∷ 1 ∷ []

-- "The whole, first bit as highest power, leaves nothing when divided"
unfoldable pub leaves_nothing : List ℕ → Bool
leaves_nothing block = zeros (remainder generator block)

-- "16 check bits last": the given bits are the coefficients of the powers from 16 up, and the check bits are what their division leaves.
-- The printed text of V.41, 2 has the given bits go down to the power 0; the whole block is divisible, as the same section says, only if
-- they go down to the power 16.
unfoldable pub check_bits : List ℕ → List ℕ
check_bits given = remainder generator (given ++ replicate 16 0)

-- the block of service and information bits
unfoldable pub block : List ℕ → List ℕ
block given = given ++ check_bits given

-- "It refuses another size with 19, ahead of number 5 for a byte above 1": of bits that are, or with check bits
-- become, a block of `size` bits
unfoldable pub bits_refusal : ℕ → List ℕ → ℕ
bits_refusal size bits = need (is_size size) 19 (need (every is_bit bits) 5 0)

-- CHECKING

unfoldable pub check_refusal : List ℕ → ℕ
check_refusal bits = bits_refusal (length bits) bits

-- whether the block is accepted
unfoldable pub check_answer : List ℕ → Result Bool Refusal
check_answer bits = answered (check_refusal bits) (leaves_nothing bits)

-- what each case says beside its number
abbrev pub is_accepted : Result Bool Refusal → Bool
is_accepted (Err e) = false
is_accepted (Ok whole) = whole

pub record CheckTold (bits : List ℕ) (r : Result Bool Refusal) : Type 0 where
  pub number_is : numbered r ≡ check_refusal bits
  pub accepted_is : is_accepted r ≡ accepted (check_refusal bits) (leaves_nothing bits) false

-- MAKING

-- the same of "service and information bits, 16 fewer than the block"; "and 7 for too few lent bytes"
unfoldable pub make_refusal : List ℕ → ℕ → ℕ
make_refusal given lent = or_next (bits_refusal (length given + 16) given) (need (leb (length given + 16) lent) 7 0)

-- how many bytes are written
unfoldable pub make_answer : List ℕ → ℕ → Result ℕ Refusal
make_answer given lent = answered (make_refusal given lent) (length given + 16)

-- the lent bytes after it: the block at their front, and "Lent bytes beyond what a call writes .. stay as they were"
unfoldable pub make_bytes : List ℕ → List ℕ → List ℕ
make_bytes given out = accepted (make_refusal given (length out)) (sets out 0 (block given)) out

-- what each case says beside its number
abbrev pub written_count : Result ℕ Refusal → ℕ
written_count (Err e) = 0
written_count (Ok n) = n

pub record MakeTold (given : List ℕ) (lent : ℕ) (r : Result ℕ Refusal) : Type 0 where
  pub number_is : numbered r ≡ make_refusal given lent
  pub count_is : written_count r ≡ accepted (make_refusal given lent) (length given + 16) 0
