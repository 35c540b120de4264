-- Document 01, "Receiver" and "Refusals", and document 02, R-1 and R-6: a receiver's events, what it refuses, and the answer, place and
-- state after an event. The guard's count of R-6 is the register's.
use Rattle.std.specs.Prelude.{ℕ, ◌+◌, Bool, ◌&&◌, List, eqb, leb}
use Rattle.line.specs.declared.Point.{Point}
use Rattle.line.specs.Mode.{is_state, width, face}
use Rattle.line.specs.Point.{in_range}
use Rattle.deciding.specs.Decide.{Region, State, Origin, decide}
use Rattle.deciding.specs.Distance.{distance}
use Rattle.coding.specs.Code.{group}
use Rattle.line.specs.Refusal.{need, or_next, accepted, mode_refusal}
use Rattle.scrambler.specs.declared.Register.{Register}
use Rattle.scrambler.specs.Bits.{bits}
use Rattle.scrambler.specs.Register.{fresh, pushes, register_ok}
use Rattle.scrambler.specs.Scramble.{Datum, descramble}
use Rattle.receiver.specs.Reference.{Reference}
use Rattle.std.specs.Prelude.{None as none, Some as some}
use Rattle.receiver.specs.declared.Receiver.{Receiver}

abbrev pub receiver : ℕ → ℕ → Reference → Register → ℕ → Receiver
receiver m role reference line place =
    record { mode = m; role = role; reference = reference; line = line; place = record { 0 = place } }

-- "A fresh one has no reference, no line bits, place 0." R-6: the count is "zero in a fresh receiver and after a gap".
unfoldable pub fresh_receiver : ℕ → ℕ → Receiver
fresh_receiver m role = receiver m role none fresh 0

-- a point, or a gap of n intervals
pub data Event : Type 0 where
  point : Point → Event
  gap : ℕ → Event

-- THE REFUSALS

-- no line bits, and a count of zero
unfoldable pub is_fresh : Register → Bool
is_fresh h = (eqb h.bits 0 && eqb h.held.0 0) && eqb h.count.0 0

-- number 4: the reference is a state of the mode, with at most R line bits; without a reference there are none. R-6: "4 covers a count
-- above 33, or above zero in modes 1 to 4 or in a receiver with fewer than 12 line bits", hence above zero in one without a reference.
unfoldable pub fields_ok : ℕ → Reference → Register → Bool
fields_ok m none h = is_fresh h
fields_ok m (some x) h = is_state m x && register_ok m h

-- of a handed-in receiver; of making one it is `mode_refusal`
unfoldable pub state_refusal : Receiver → ℕ
state_refusal s = or_next (mode_refusal s.mode s.role) (need (fields_ok s.mode s.reference s.line) 4 0)

-- number 16: the place n intervals on
unfoldable pub has_room : Receiver → ℕ → Bool
has_room s n = leb (s.place.0 + n) 4294967295

unfoldable pub event_refusal : Receiver → Event → ℕ
event_refusal s (point p) = need (in_range p) 8 (need (has_room s 1) 16 0)
event_refusal s (gap n) = need (leb 1 n) 9 (need (has_room s n) 16 0)

unfoldable pub refusal : Receiver → Event → ℕ
refusal s e = or_next (state_refusal s) (event_refusal s e)

-- THE ANSWER

-- a refusal's number; the reference alone; line bits and data bits, first in time first; a gap and its intervals. R-1: "The receiver's
-- answers carry it for every decided point, reference points included.": the last number of `reference` and `decoded` is the squared
-- distance to the decided state's sent point.
pub data Answer : Type 0 where
  refused : ℕ → Answer
  reference : ℕ → Answer
  decoded : List ℕ → List Datum → ℕ → Answer
  lost : ℕ → Answer

-- the w line bits of the state y after the reference x
abbrev pub line_bits : ℕ → ℕ → ℕ → List ℕ
line_bits m x y = bits (width m) (group m (face m x) y)

-- a point decided as y at the distance d: without a reference that alone, otherwise its line bits and their data bits with the marks
unfoldable pub state_answer : Receiver → Reference → ℕ → ℕ → Answer
state_answer s none y d = reference d
state_answer s (some x) y d = decoded (line_bits s.mode x y) (descramble s.mode s.role s.line (line_bits s.mode x y)) d

-- the origin is a gap of one interval
unfoldable pub point_answer : Receiver → Point → Region → Answer
point_answer s p (State y) = state_answer s s.reference y (distance s.mode y p)
point_answer s p Origin = lost 1

unfoldable pub event_answer : Receiver → Event → Answer
event_answer s (point p) = point_answer s p (decide s.mode p)
event_answer s (gap n) = lost n

-- "A refusal gives back its number alone"
unfoldable pub answer : Receiver → Event → Answer
answer s e = accepted (refusal s e) (event_answer s e) (refused (refusal s e))

-- THE PLACE, in unit intervals

abbrev pub intervals : Event → ℕ
intervals (point p) = 1
intervals (gap n) = n

unfoldable pub place_after : Receiver → Event → ℕ
place_after s e = accepted (refusal s e) (s.place.0 + intervals e) s.place.0

-- THE STATE

-- a gap of n intervals: reference and line bits are forgotten, and R-6: the count is zero "after a gap"
unfoldable pub forgotten : Receiver → ℕ → Receiver
forgotten s n = receiver s.mode s.role none fresh (s.place.0 + n)

-- the line bits held after the state y
unfoldable pub state_line : Receiver → Reference → ℕ → Register
state_line s none y = s.line
state_line s (some x) y = pushes s.mode s.line (line_bits s.mode x y)

-- a point decided as y becomes the reference
unfoldable pub state_next : Receiver → Reference → ℕ → Receiver
state_next s o y = receiver s.mode s.role (some y) (state_line s o y) (s.place.0 + 1)

unfoldable pub point_next : Receiver → Region → Receiver
point_next s (State y) = state_next s s.reference y
point_next s Origin = forgotten s 1

unfoldable pub event_next : Receiver → Event → Receiver
event_next s (point p) = point_next s (decide s.mode p)
event_next s (gap n) = forgotten s n

-- a refusal leaves the state
unfoldable pub next : Receiver → Event → Receiver
next s e = accepted (refusal s e) (event_next s e) s
