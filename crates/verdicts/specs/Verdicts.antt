-- The front's command `check`: one line a block, `P whole` or `P broken`, P being the place of the block's first bit in the whole input, counted
-- from 0. What `check_blocks` refuses, answers and writes.
use Rattle.std.specs.Prelude.{ℕ, zero, suc, ◌+◌, ◌*◌, ◌/◌, ◌%◌, ◌≡◌, ◌&&◌, cond, List, [], ◌∷◌, ◌++◌, Result, Ok, Err, ltb, leb, length, take, drop}
use Rattle.std.proofs.lemmas.List.Edits.{sets}
use Rattle.line.specs.declared.refusal.Refusal.{Refusal}
use Rattle.line.specs.Refusal.{numbered, answered, need, or_next, accepted}
use Rattle.v41.specs.Block.{bits_refusal, check_answer, is_accepted}
use Rattle.verdicts.specs.declared.Lines.{Lines}

-- THE LINE OF A BLOCK

-- the decimal digits of n with no zero in front, at most k of them
abbrev pub digits : ℕ → ℕ → List ℕ
digits zero n = []
digits (suc k) n = cond (ltb n 10) ((48 + n) ∷ []) (digits k (n / 10) ++ ((48 + n % 10) ∷ []))

-- twenty hold every place, since none is above 18446744073709551615
unfoldable pub decimal : ℕ → List ℕ
decimal n = digits 20 n

-- " whole" and " broken", each with its line end
abbrev pub whole_word : List ℕ
whole_word = 32 ∷ 119 ∷ 104 ∷ 111 ∷ 108 ∷ 101 ∷ 10 ∷ []

abbrev pub broken_word : List ℕ
broken_word = 32 ∷ 98 ∷ 114 ∷ 111 ∷ 107 ∷ 101 ∷ 110 ∷ 10 ∷ []

-- what `v41::check` says of the block
unfoldable pub verdict : List ℕ → List ℕ
verdict block = cond (is_accepted (check_answer block)) whole_word broken_word

unfoldable pub line : ℕ → List ℕ → List ℕ
line place block = decimal place ++ verdict block

-- THE TEXT

-- the lines of the first k blocks of `size` bits
abbrev pub lines_of : ℕ → ℕ → ℕ → List ℕ → List ℕ
lines_of size zero place bits = []
lines_of size (suc k) place bits = line place (take size bits) ++ lines_of size k (place + size) (drop size bits)

-- of all whole blocks; fewer bits than a block has, at the end, give no line
unfoldable pub text : ℕ → ℕ → List ℕ → List ℕ
text size place bits = lines_of size (length bits / size) place bits

-- how many bits those blocks have
unfoldable pub taken : ℕ → List ℕ → ℕ
taken size bits = length bits / size * size

-- THE CALL

-- 19 and 5 as `v41::check` gives them. 7: fewer than 28 lent bytes for each whole block, the most that a line has; or a place behind the last
-- bit that is above 18446744073709551615
unfoldable pub lines_refusal : ℕ → ℕ → List ℕ → ℕ → ℕ
lines_refusal size place bits lent =
    or_next (bits_refusal size bits)
    (need (leb (28 * (length bits / size)) lent && leb (place + length bits) 18446744073709551615) 7 0)

-- the length of the text, and how many bits it tells of
abbrev pub text_lines : ℕ → ℕ → List ℕ → Lines
text_lines size place bits = record { written = length (text size place bits); taken = taken size bits }

unfoldable pub lines_answer : ℕ → ℕ → List ℕ → ℕ → Result Lines Refusal
lines_answer size place bits lent = answered (lines_refusal size place bits lent) (text_lines size place bits)

-- the lent bytes after it: the text at their front, and all others as they were
unfoldable pub lines_bytes : ℕ → ℕ → List ℕ → List ℕ → List ℕ
lines_bytes size place bits out = accepted (lines_refusal size place bits (length out)) (sets out 0 (text size place bits)) out

-- what each case says beside its number: the length of the text; how many bits were taken
abbrev pub text_length : Result Lines Refusal → ℕ
text_length (Err e) = 0
text_length (Ok l) = l.written

abbrev pub bits_taken : Result Lines Refusal → ℕ
bits_taken (Err e) = 0
bits_taken (Ok l) = l.taken

pub record LinesTold (size place : ℕ) (bits : List ℕ) (lent : ℕ) (r : Result Lines Refusal) : Type 0 where
  pub number_is : numbered r ≡ lines_refusal size place bits lent
  pub length_is : text_length r ≡ accepted (lines_refusal size place bits lent) (length (text size place bits)) 0
  pub taken_is : bits_taken r ≡ accepted (lines_refusal size place bits lent) (taken size bits) 0
