-- Document 01, "Lists of calls": the state after a list, and the accepted calls of a list with their answers.
use Rattle.std.specs.Prelude.{ℕ, ◌+◌, Bool, false, not, ◌≡◌, List, [], ◌∷◌, ◌++◌, map, T, drop}
use Rattle.line.specs.Point.{is_origin}
use Rattle.deciding.specs.Decide.{decide, state_in}
use Rattle.line.specs.Refusal.{accepted}
use Rattle.scrambler.specs.Scramble.{Datum}
use Rattle.receiver.specs.declared.Receiver.{Receiver}
use Rattle.receiver.specs.Receiver.{Event, point, gap, Answer, refused, reference, decoded, lost, refusal, answer, intervals, next}

-- "Each call gets what the last one handed back or left, after a refusal what that one had got"
abbrev pub after : Receiver → List Event → Receiver
after s [] = s
after s (e ∷ es) = after (next s e) es

-- no call of a list is refused
abbrev pub EachAccepted : Receiver → List Event → Type 0
EachAccepted s [] = Unit {0}
EachAccepted s (e ∷ es) = (refusal s e ≡ 0) × EachAccepted (next s e) es

pub record Heard : Type 0 where
  pub event : Event
  pub answered : Answer

-- "A call is accepted when it is not refused.": the accepted calls of a list, each with its answer
abbrev pub heard : Receiver → List Event → List Heard
heard s [] = []
heard s (e ∷ es) =
    accepted (refusal s e) (record { event = e; answered = answer s e } ∷ heard (next s e) es) (heard (next s e) es)

abbrev pub events : List Heard → List Event
events xs = map (λ (x : Heard). x.event) xs

abbrev pub answers : List Heard → List Answer
answers xs = map (λ (x : Heard). x.answered) xs

-- the intervals of the accepted calls
abbrev pub heard_intervals : List Heard → ℕ
heard_intervals [] = 0
heard_intervals (x ∷ xs) = intervals x.event + heard_intervals xs

-- no gap and no origin point
abbrev pub is_point : Event → Bool
is_point (point p) = not (is_origin p)
is_point (gap n) = false

abbrev pub IsPoint : Heard → Type 0
IsPoint x = T (is_point x.event)

-- the state that an event's point is decided as; of a gap 0, which is not asked for
abbrev pub decided_as : ℕ → Event → ℕ
decided_as m (point p) = state_in (decide m p)
decided_as m (gap n) = 0

-- the bits of an answer, without its distance
abbrev pub line_of : Answer → List ℕ
line_of (refused n) = []
line_of (reference d) = []
line_of (decoded ls ds d) = ls
line_of (lost n) = []

abbrev pub data_of : Answer → List Datum
data_of (refused n) = []
data_of (reference d) = []
data_of (decoded ls ds d) = ds
data_of (lost n) = []

-- the squared distance that an answer carries; of a gap and of a refusal none
abbrev pub distances_of : Answer → List ℕ
distances_of (refused n) = []
distances_of (reference d) = d ∷ []
distances_of (decoded ls ds d) = d ∷ []
distances_of (lost n) = []

-- the decided states of accepted points
abbrev pub decided_states : ℕ → List Heard → List ℕ
decided_states m xs = map (λ (x : Heard). decided_as m x.event) xs

-- the line bits, point by point
abbrev pub lines_heard : List Heard → List (List ℕ)
lines_heard xs = map (λ (x : Heard). line_of x.answered) xs

-- groups in one row
abbrev pub row : {A : Type 0} → List (List A) → List A
row [] = []
row (g ∷ gs) = g ++ row gs

-- the data bits, in one row
abbrev pub data_heard : List Heard → List Datum
data_heard xs = row (map (λ (x : Heard). data_of x.answered) xs)

-- the same from the second point on
abbrev pub lines_from2 : List Heard → List (List ℕ)
lines_from2 xs = lines_heard (drop 1 xs)
