-- Document 02, R-3: "The new demodulator hands over readings of three kinds". What a receiver refuses of them, and what it answers.
use Rattle.std.specs.Prelude.{ℕ, ◌+◌, ◌≡◌, Bool, true, ◌&&◌, cond, Float, Result, Ok, Err}
use Rattle.line.specs.Mode.{width}
use Rattle.line.specs.declared.refusal.Refusal.{Refusal}
use Rattle.line.specs.declared.refusal.Refusal.TheVariants.{Coordinate, NotFinite}
use Rattle.line.specs.Refusal.{answered, need, or_next, accepted}
use Rattle.levels.specs.declared.Levels.{Levels}
use Rattle.levels.specs.Levels.{is_finite, point_of, in_reach}
use Rattle.receiver.specs.declared.Receiver.{Receiver}
use Rattle.receiver.specs.declared.Outcome.{Outcome}
use Rattle.receiver.specs.Receiver.{Event, point, gap, Answer, refused, state_refusal, event_refusal, event_answer, intervals, event_next}
use Rattle.receiver.specs.Outcome.{answer_of, state_of, place_of, event_outcome}
use Rattle.readings.specs.declared.Reading.{Reading}
use Rattle.readings.specs.declared.Reading.TheVariants.{Point as InLevels, Squelch, Hole}
use Rattle.readings.specs.declared.Units.{Units}
use Rattle.readings.specs.declared.Units.TheVariants.{Point as InUnits, Gap}

-- the three kinds
abbrev pub levels : Levels → Reading
levels p = InLevels p

abbrev pub squelch : Float → Reading
squelch power = Squelch power

abbrev pub hole : ℕ → Reading
hole n = Hole n

-- the event that a reading is: "A coordinate v becomes the whole number nearest 1024 times v", "a squelched interval is a gap of one, a
-- hole a gap of its count"
abbrev pub event_of : Reading → Event
event_of (InLevels p) = point (point_of p)
event_of (Squelch power) = gap 1
event_of (Hole n) = gap n

-- number 18: "a NaN or infinite coordinate or power"
abbrev pub is_number : Reading → Bool
is_number (InLevels p) = is_finite p.re && is_finite p.im
is_number (Squelch power) = is_finite power
is_number (Hole n) = true

-- "after 7 and before 8"
unfoldable pub reading_refusal : Receiver → Reading → ℕ
reading_refusal s r = or_next (state_refusal s) (need (is_number r) 18 (event_refusal s (event_of r)))

-- the answer, the place and the state after it: those of its event
unfoldable pub reading_answer : Receiver → Reading → Answer
reading_answer s r = accepted (reading_refusal s r) (event_answer s (event_of r)) (refused (reading_refusal s r))

unfoldable pub reading_place : Receiver → Reading → ℕ
reading_place s r = accepted (reading_refusal s r) (s.place.0 + intervals (event_of r)) s.place.0

unfoldable pub reading_next : Receiver → Reading → Receiver
reading_next s r = accepted (reading_refusal s r) (event_next s (event_of r)) s

-- what the call hands back, and what each case of it says
unfoldable pub reading_outcome : Receiver → Reading → Result Outcome Refusal
reading_outcome s r = answered (reading_refusal s r) (event_outcome s (event_of r))

pub record Told (s : Receiver) (r : Reading) (o : Result Outcome Refusal) : Type 0 where
  pub answer_is : answer_of (width s.mode) o ≡ reading_answer s r
  pub place_is : place_of s o ≡ reading_place s r
  pub state_is : state_of s o ≡ reading_next s r

-- WHAT THE CODE HANDS ON TO THE RECEIVER: the rounded point or the gap, or number 18 or 8

unfoldable pub in_units : Reading → Result Units Refusal
in_units (InLevels p) = cond (in_reach p.re && in_reach p.im) (Ok (InUnits (point_of p))) (Err (cond (is_finite p.re && is_finite p.im) Coordinate NotFinite))
in_units (Squelch power) = cond (is_finite power) (Ok (Gap 1)) (Err NotFinite)
in_units (Hole n) = Ok (Gap n)
