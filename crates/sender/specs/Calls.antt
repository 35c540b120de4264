-- Document 01, "Lists of calls": a sender's list, and its data points.
use Rattle.std.specs.Prelude.{ℕ, ◌+◌, ◌*◌, ◌/◌, ◌≡◌, List, [], ◌∷◌, ◌++◌, Result, Ok, Err, ℤ, pos, length, get_or}
use Rattle.line.specs.declared.Point.{Point}
use Rattle.line.specs.declared.refusal.Refusal.{Refusal}
use Rattle.line.specs.Mode.{width}
use Rattle.line.specs.Point.{at}
use Rattle.sender.specs.declared.Sender.{Sender}
use Rattle.sender.specs.Sender.{state_refusal, grouped, send_answer, send_numbers}
pub use Rattle.sender.specs.Sender.{handed_on}
use Rattle.sender.specs.Open.{open_answer}

-- a sending call: data bits, the lent numbers as the call finds them, and the offset
pub record Send : Type 0 where
  pub bits : List ℕ
  pub lent : List ℤ
  pub offset : ℕ

-- a data point, with the w data bits it was made from
pub record DataPoint : Type 0 where
  pub point : Point
  pub bits : List ℕ

-- what `send` answers to a call, and the numbers as they stand when it returns
abbrev pub answer : Sender → Send → Result Sender Refusal
answer s c = send_answer s c.bits (length c.lent) c.offset

abbrev pub numbers_after : Sender → Send → List ℤ
numbers_after s c = send_numbers s c.bits c.lent c.offset

-- the points that stand in numbers from a place on, one for each group of data bits: a point is re, then im
abbrev pub standing : List ℤ → ℕ → List (List ℕ) → List DataPoint
standing ns k [] = []
standing ns k (g ∷ gs) = record { point = at (get_or ns k (pos 0)) (get_or ns (k + 1) (pos 0)); bits = g } ∷ standing ns (k + 2) gs

-- "Data points are those that accepted sending calls write, as they stand when the call returns"; a refused call writes none
abbrev pub data_of : Result Sender Refusal → Sender → Send → List DataPoint
data_of (Err e) s c = []
data_of (Ok t) s c = standing (numbers_after s c) c.offset (grouped (width s.mode) c.bits)

-- the data points of a list of calls
abbrev pub data_points : Sender → List Send → List DataPoint
data_points s [] = []
data_points s (c ∷ cs) = data_of (answer s c) s c ++ data_points (handed_on (answer s c) s) cs

-- WHAT THE CALLS OF A LIST HAVE IN COMMON, proved in proofs/StateLaws and proofs/JoinLaws

-- the state that opening or sending hands back is one that numbers 1, 2 and 4 let pass
abbrev pub Passes : Result Sender Refusal → Type 0
Passes (Err e) = Unit {0}
Passes (Ok t) = state_refusal t ≡ 0

abbrev pub OpenedPasses : Type 0
OpenedPasses = (m role n lent offset : ℕ) → Passes (open_answer m role n lent offset)

abbrev pub SentPasses : Type 0
SentPasses = (s : Sender) (ds : List ℕ) (lent offset : ℕ) → Passes (send_answer s ds lent offset)

-- two inputs sent one after the other, the second from where the first one's points end, are sent as the two together
abbrev pub SentTogether : Type 0
SentTogether =
    (s t u : Sender) (ds es : List ℕ) (out : List ℤ) (offset : ℕ)
    → send_answer s ds (length out) offset ≡ Ok t
    → send_answer t es (length (send_numbers s ds out offset)) (offset + 2 * (length ds / width s.mode)) ≡ Ok u
    → (send_answer s (ds ++ es) (length out) offset ≡ Ok u)
    × (send_numbers s (ds ++ es) out offset ≡ send_numbers t es (send_numbers s ds out offset) (offset + 2 * (length ds / width s.mode)))
