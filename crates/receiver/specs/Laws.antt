-- Document 01, "Receiver", and document 02, R-1 and R-6: what the definitions say after every call and every list of calls. Proved in
-- proofs/CallLaws and proofs/Example.
use Rattle.std.specs.Prelude.{ℕ, ◌+◌, ◌≡◌, true, false, List, [], ◌∷◌, pos, negsuc}
use Rattle.line.specs.declared.Point.{Point}
use Rattle.line.specs.Point.{at, is_origin}
use Rattle.deciding.specs.Distance.{distance}
use Rattle.line.specs.Refusal.{mode_refusal}
use Rattle.scrambler.specs.Register.{fresh}
use Rattle.scrambler.specs.Scramble.{unsettled}
use Rattle.std.specs.Prelude.{None as none}
use Rattle.receiver.specs.declared.Receiver.{Receiver}
use Rattle.receiver.specs.Receiver.{fresh_receiver, Event, point, gap, state_refusal, refusal, reference, decoded, lost, answer, next}
use Rattle.receiver.specs.Calls.{after, heard, answers, heard_intervals, decided_as, distances_of}

-- numbers 1, 2 and 4 let pass every state that is handed back
pub record StatesPass : Type 0 where
  pub fresh_passes : (m role : ℕ) → mode_refusal m role ≡ 0 → state_refusal (fresh_receiver m role) ≡ 0
  pub handed_back_passes : (s : Receiver) (e : Event) → refusal s e ≡ 0 → state_refusal (next s e) ≡ 0
  pub after_passes : (s : Receiver) (es : List Event) → state_refusal s ≡ 0 → state_refusal (after s es) ≡ 0

-- "reference and line bits are forgotten", at the origin too; R-6: and the count is zero, as in `fresh`
abbrev pub GapForgets : Type 0
GapForgets = (s : Receiver) (e : Event) (n : ℕ) → answer s e ≡ lost n → ((next s e).reference ≡ none) × ((next s e).line ≡ fresh)

-- an accepted point off the origin is answered with its squared distance from the sent point of the state that it is decided as, with a
-- reference or without one; the origin and a gap with none
pub record EachMeasured : Type 0 where
  pub of_point : (s : Receiver) (p : Point) → refusal s (point p) ≡ 0 → is_origin p ≡ false → distances_of (answer s (point p)) ≡ distance s.mode (decided_as s.mode (point p)) p ∷ []
  pub of_origin : (s : Receiver) (p : Point) → is_origin p ≡ true → distances_of (answer s (point p)) ≡ []
  pub of_gap : (s : Receiver) (n : ℕ) → distances_of (answer s (gap n)) ≡ []

-- the place after a list is the one before it and the intervals of the accepted calls
abbrev pub PlaceAfter : Type 0
PlaceAfter = (s : Receiver) (es : List Event) → (after s es).place.0 ≡ s.place.0 + heard_intervals (heard s es)

-- the events of the example in "Listing program", and among them a gap of no intervals, which is refused and not counted
abbrev pub example_events : List Event
example_events =
    point (at (pos 4096) (pos 0)) ∷ gap 0 ∷ point (at (pos 0) (pos 4096)) ∷ gap 3 ∷ point (at (negsuc 4095) (pos 0)) ∷ []

pub record Example : Type 0 where
  pub answered : answers (heard (fresh_receiver 1 0) example_events) ≡ reference 0 ∷ decoded (0 ∷ 1 ∷ []) (unsettled ∷ unsettled ∷ []) 0 ∷ lost 3 ∷ reference 0 ∷ []
  pub place : (after (fresh_receiver 1 0) example_events).place.0 ≡ 6
