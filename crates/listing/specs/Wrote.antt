-- What a run of bytes leaves in a buffer, and the lines of a block's bytes: the contracts of the private functions.
use Rattle.std.specs.Prelude.{◌≡◌, cond, List, [], ◌∷◌, ◌++◌, ℕ, zero, suc, ◌+◌, ◌/◌, ◌%◌, eqb, ℤ, length, drop}
use Rattle.std.proofs.lemmas.List.Edits.{sets}
use Rattle.octets.specs.Number.{i16}
use Rattle.scrambler.specs.Bits.{bits}
use Rattle.scrambler.specs.Group.{marked}
use Rattle.receiver.specs.declared.Receiver.{Receiver}
use Rattle.receiver.specs.Receiver.{Answer, reference, decoded, lost}
use Rattle.receiver.specs.Receiver.{Event as Call}
use Rattle.receiver.specs.Calls.{after}
use Rattle.listing.specs.declared.Progress.{Progress}
use Rattle.listing.specs.Text.{line_text, lines}

-- the bytes vs stand in the buffer from `at` on, and `after` is the place behind them
pub record Wrote (out : List ℕ) (at : ℕ) (vs out' : List ℕ) (after : ℕ) : Type 0 where
  pub written : out' ≡ sets out at vs
  pub behind : after ≡ at + length vs

-- the lines of the calls that a receiver in state s took, and its state after them
pub record Went (out : List ℕ) (at : ℕ) (s : Receiver) (es : List Call) (out' : List ℕ) (r : Progress) : Type 0 where
  pub wrote : Wrote out at (lines s es) out' r.at
  pub state : r.state ≡ after s es

-- the n signed numbers that stand in bytes one after the other
unfoldable pub numbers_in : List ℕ → ℕ → List ℤ
numbers_in bs zero = []
numbers_in bs (suc n) = i16 bs 0 ∷ numbers_in (drop 2 bs) n

-- the answer that a point's two bytes in a block say, with w bits in a point; its distance, which no line has, is put as 0
unfoldable pub byte_answer : ℕ → ℕ → ℕ → Answer
byte_answer w l p = cond (eqb l 16) (reference 0) (cond (eqb l 17) (lost 1) (decoded (bits w l) (marked (p / 16) (bits w (p % 16))) 0))

-- the lines of points from those bytes, the first at a place
abbrev pub byte_lines : ℕ → ℕ → List ℕ → List ℕ → List ℕ
byte_lines w place [] ps = []
byte_lines w place (l ∷ ls) [] = []
byte_lines w place (l ∷ ls) (p ∷ ps) = line_text place (byte_answer w l p) ++ byte_lines w (place + 1) ls ps
