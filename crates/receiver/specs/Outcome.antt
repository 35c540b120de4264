-- Document 01, "Forms we want to see": "Where an answer is an enum, a definition gives this paper's number and values for each of
-- the enum's cases." What the public functions hand back, and what each case of it says.
use Rattle.std.specs.Prelude.{ℕ, ◌≡◌, cond, List, [], ◌∷◌, Option, Some, None, Result, Ok, Err}
use Rattle.deciding.specs.declared.SquaredUnits.{SquaredUnits}
use Rattle.deciding.specs.declared.Decided.{Decided}
use Rattle.line.specs.Mode.{width, face}
use Rattle.deciding.specs.Distance.{decision}
use Rattle.coding.specs.Code.{group}
use Rattle.line.specs.declared.refusal.Refusal.{Refusal}
use Rattle.line.specs.declared.refusal.Refusal.TheVariants.{Intervals}
use Rattle.line.specs.Refusal.{number, numbered, answered, accepted}
use Rattle.scrambler.specs.Bits.{bits}
use Rattle.scrambler.specs.Group.{descrambled, marked}
use Rattle.receiver.specs.Reference.{Reference}
use Rattle.std.specs.Prelude.{None as none, Some as some}
use Rattle.receiver.specs.declared.Receiver.{Receiver}
use Rattle.receiver.specs.declared.Group.{Group}
use Rattle.receiver.specs.declared.Outcome.{Outcome}
use Rattle.receiver.specs.declared.Outcome.TheVariants.{Referenced, Bits, Gap}
use Rattle.line.specs.Refusal.{mode_refusal}
use Rattle.receiver.specs.Receiver.{Event, point, gap, Answer, refused, reference, decoded, lost, fresh_receiver, has_room, refusal, answer, place_after, forgotten, state_next, next}

-- THE PAPER'S NUMBER AND VALUES

-- the answer that a case stands for; w bits in a point, the first in time highest
abbrev pub answer_of : ℕ → Result Outcome Refusal → Answer
answer_of w (Err e) = refused (number e)
answer_of w (Ok (Referenced d t)) = reference d.0
answer_of w (Ok (Bits g d t)) = decoded (bits w g.line) (marked g.unsettled.0 (bits w g.plain)) d.0
answer_of w (Ok (Gap n t)) = lost n.0

-- the state that a later call gets: the one handed back, after a refusal the one that the refused call got
abbrev pub state_of : Receiver → Result Outcome Refusal → Receiver
state_of s (Err e) = s
state_of s (Ok (Referenced d t)) = t
state_of s (Ok (Bits g d t)) = t
state_of s (Ok (Gap n t)) = t

-- the place after the call, in unit intervals
abbrev pub place_of : Receiver → Result Outcome Refusal → ℕ
place_of s r = (state_of s r).place.0

-- "Answer, place and state after an event are each one equation with these rules."
pub record Told (s : Receiver) (e : Event) (r : Result Outcome Refusal) : Type 0 where
  pub answer_is : answer_of (width s.mode) r ≡ answer s e
  pub place_is : place_of s r ≡ place_after s e
  pub state_is : state_of s r ≡ next s e

-- THE VALUE ITSELF

-- the bits of the state y after the reference x, as numbers
unfoldable pub group_of : Receiver → ℕ → ℕ → Group
group_of s x y =
    let g : ℕ = group s.mode (face s.mode x) y in
    record {
      line = g;
      plain = (descrambled s.mode s.role s.line g).plain;
      unsettled = (descrambled s.mode s.role s.line g).unsettled;
    }

unfoldable pub state_outcome : Receiver → Reference → ℕ → SquaredUnits → Outcome
state_outcome s none y d = Referenced d (state_next s none y)
state_outcome s (some x) y d = Bits (group_of s x y) d (state_next s (some x) y)

abbrev pub gap_outcome : Receiver → ℕ → Outcome
gap_outcome s n = Gap (record { 0 = n }) (forgotten s n)

unfoldable pub point_outcome : Receiver → Option Decided → Outcome
point_outcome s (Some d) = state_outcome s s.reference d.state d.distance
point_outcome s None = gap_outcome s 1

unfoldable pub event_outcome : Receiver → Event → Outcome
event_outcome s (point p) = point_outcome s (decision s.mode p)
event_outcome s (gap n) = gap_outcome s n

unfoldable pub outcome : Receiver → Event → Result Outcome Refusal
outcome s e = answered (refusal s e) (event_outcome s e)

-- number 16 comes last: what an event gives that n intervals have room for
unfoldable pub if_room : Receiver → ℕ → Outcome → Result Outcome Refusal
if_room s n r = cond (has_room s n) (Ok r) (Err Intervals)

-- A FRESH RECEIVER

-- the receiver that is made, if one is
abbrev pub made_of : Result Receiver Refusal → List Receiver
made_of (Err e) = []
made_of (Ok s) = s ∷ []

pub record Made (m role : ℕ) (r : Result Receiver Refusal) : Type 0 where
  pub number : numbered r ≡ mode_refusal m role
  pub made : made_of r ≡ accepted (mode_refusal m role) (fresh_receiver m role ∷ []) []

unfoldable pub started : ℕ → ℕ → Result Receiver Refusal
started m role = answered (mode_refusal m role) (fresh_receiver m role)
