-- The front's commands `send` and `check`: "bits as the characters 0 and 1, blanks and line ends skipped". What a text of bytes says, and what
-- `take_bits` refuses, answers and writes.
use Rattle.std.specs.Prelude.{ℕ, ◌-◌, ◌≡◌, Bool, false, ◌||◌, cond, List, [], ◌∷◌, Result, Ok, Err, leb, length}
use Rattle.std.proofs.lemmas.List.Edits.{sets}
use Rattle.line.specs.Table.{member, every}
use Rattle.line.specs.declared.refusal.Refusal.{Refusal}
use Rattle.line.specs.Refusal.{numbered, answered, need, accepted}
use Rattle.bit_text.specs.declared.TextBits.{TextBits}

-- THE CHARACTERS

-- "blanks and line ends": space and tab, line feed and carriage return
unfoldable pub is_blank : ℕ → Bool
is_blank c = member c (32 ∷ 9 ∷ 10 ∷ 13 ∷ [])

-- "the characters 0 and 1"
unfoldable pub is_digit : ℕ → Bool
is_digit c = member c (48 ∷ 49 ∷ [])

-- THE TEXT

-- its bits in order; a character that is none of these ends it
abbrev pub bits_in : List ℕ → List ℕ
bits_in [] = []
bits_in (c ∷ cs) = cond (is_digit c) ((c - 48) ∷ bits_in cs) (cond (is_blank c) (bits_in cs) [])

-- there is no such character
abbrev pub whole : List ℕ → Bool
whole cs = every (λ (c : ℕ). is_digit c || is_blank c) cs

-- THE CALL

-- 7: fewer lent bytes than characters
unfoldable pub text_refusal : List ℕ → ℕ → ℕ
text_refusal text lent = need (leb (length text) lent) 7 0

-- the count of bits, and whether they are those of the whole text
unfoldable pub text_answer : List ℕ → ℕ → Result TextBits Refusal
text_answer text lent = answered (text_refusal text lent) (record { count = length (bits_in text); whole = whole text })

-- the lent bytes after it: the bits at their front, and all others as they were
unfoldable pub text_bytes : List ℕ → List ℕ → List ℕ
text_bytes text out = accepted (text_refusal text (length out)) (sets out 0 (bits_in text)) out

-- what each case says beside its number: how many bits are written; whether the text was read to its end
abbrev pub bit_count : Result TextBits Refusal → ℕ
bit_count (Err e) = 0
bit_count (Ok t) = t.count

abbrev pub took_all : Result TextBits Refusal → Bool
took_all (Err e) = false
took_all (Ok t) = t.whole

pub record TextTold (text : List ℕ) (lent : ℕ) (r : Result TextBits Refusal) : Type 0 where
  pub number_is : numbered r ≡ text_refusal text lent
  pub count_is : bit_count r ≡ accepted (text_refusal text lent) (length (bits_in text)) 0
  pub all_is : took_all r ≡ accepted (text_refusal text lent) (whole text) false
