-- Document 02, R-2: the lines of a listing agree with its sums. The lines are read off the text itself, so that nothing here is
-- said over a receiver's answers. The proof is in proofs/Agreements.
use Rattle.std.specs.Prelude.{◌≡◌, Bool, true, false, ◌&&◌, cond, List, [], ◌∷◌, ◌++◌, ℕ, ◌+◌, ◌*◌, ◌-◌, eqb, length, get_or}
use Rattle.store.specs.Chain.{sum_over}
use Rattle.store.specs.Store.{events, refusal}
use Rattle.summing.specs.declared.EventSums.{EventSums}
use Rattle.summing.specs.Sums.{sums_of}
use Rattle.listing.specs.Text.{line_end, sum_line, text}
use Rattle.listing.specs.Laws.{AreBytes}

-- LINES AND WORDS

-- x in front of the first part
abbrev pub in_front : ℕ → List (List ℕ) → List (List ℕ)
in_front x [] = (x ∷ []) ∷ []
in_front x (p ∷ ps) = (x ∷ p) ∷ ps

-- bytes cut into parts, each of which the byte c ends, the last one perhaps not
abbrev pub cut : ℕ → List ℕ → List (List ℕ)
cut c [] = []
cut c (x ∷ xs) = cond (eqb x c) ([] ∷ cut c xs) (in_front x (cut c xs))

abbrev pub lines_in : List ℕ → List (List ℕ)
lines_in t = cut 10 t

-- word k of a line, from 0 on; words have a blank between them
abbrev pub word : ℕ → List ℕ → List ℕ
word k l = get_or (cut 32 l) k []

abbrev pub same : List ℕ → List ℕ → Bool
same [] [] = true
same [] (y ∷ ys) = false
same (x ∷ xs) [] = false
same (x ∷ xs) (y ∷ ys) = eqb x y && same xs ys

-- the number that decimal digits say, n being what those before them say
abbrev pub value : ℕ → List ℕ → ℕ
value n [] = n
value n (d ∷ ds) = value (10 * n + (d - 48)) ds

-- THE LINES OF A KIND

-- `ref`, `bits`, `lost`
abbrev pub ref_kind : List ℕ
ref_kind = 114 ∷ 101 ∷ 102 ∷ []

abbrev pub bits_kind : List ℕ
bits_kind = 98 ∷ 105 ∷ 116 ∷ 115 ∷ []

abbrev pub lost_kind : List ℕ
lost_kind = 108 ∷ 111 ∷ 115 ∷ 116 ∷ []

-- the kind stands after the place: 1 for a line of kind k, else 0
abbrev pub is_kind : List ℕ → List ℕ → ℕ
is_kind k l = cond (same (word 1 l) k) 1 0

-- the count of a line `lost`; no other line has one
abbrev pub lost_count : List ℕ → ℕ
lost_count l = cond (same (word 1 l) lost_kind) (value 0 (word 2 l)) 0

-- THE AGREEMENT

-- of the lines ls of a listing, of n events and their sums v: P lines `ref` or `bits`, G lines `lost`, whose counts add up to L; a line
-- for each event between the first line and the last, which is the one of the sums
pub record Agrees (ls : List (List ℕ)) (n : ℕ) (v : EventSums) : Type 0 where
  pub decided_lines : sum_over (is_kind ref_kind) ls + sum_over (is_kind bits_kind) ls ≡ v.points
  pub lost_lines : sum_over (is_kind lost_kind) ls ≡ v.gaps
  pub lost_counts : sum_over lost_count ls ≡ v.lost
  pub each_a_line : length ls ≡ 2 + n
  pub sums_last : get_or ls (1 + n) [] ++ line_end ≡ sum_line v

-- every accepted store
abbrev pub LinesAgree : Type 0
LinesAgree = (s : List ℕ) → AreBytes s → refusal s ≡ 0 → Agrees (lines_in (text s)) (length (events s)) (sums_of (events s))

-- "A refused store prints one line and nothing else"
abbrev pub OneLine : Type 0
OneLine = (s : List ℕ) → (refusal s ≡ 0 → ⊥) → length (lines_in (text s)) ≡ 1
