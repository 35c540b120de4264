-- The command `store`: a capture's events appended to a track store one after the other, up to the first append that is refused.
use Rattle.std.specs.Prelude.{◌≡◌, Option, Some, None, Result, List, [], ◌∷◌, ◌++◌, ℕ, ◌+◌, ◌*◌, ◌≤◌, length, take, drop}
use Rattle.std.specs.Result.{result_unwrap_or}
use Rattle.line.specs.declared.refusal.Refusal.{Refusal}
use Rattle.line.specs.Refusal.{number, numbered, or_next, accepted}
use Rattle.store.specs.Chain.{sum_over}
use Rattle.store.specs.Layout.{Event}
use Rattle.track.specs.Calls.{call_number, call_result, after}
use Rattle.track.specs.Points.{point_events}
use Rattle.capture.specs.Capture.{size, events_in}
use Rattle.track_capture.specs.declared.Run.{Run}
use Rattle.track_capture.specs.declared.Appended.{Appended}

-- the events before the first append that is refused, each appended to the store that the one before left
abbrev pub accepted_of : List ℕ → List Event → List Event
accepted_of s [] = []
accepted_of s (e ∷ es) = accepted (call_number s e) (e ∷ accepted_of (call_result s e) es) []

-- that append's number, 0 where none is refused
abbrev pub number_of : List ℕ → List Event → ℕ
number_of s [] = 0
number_of s (e ∷ es) = or_next (call_number s e) (number_of (call_result s e) es)

-- the number of what refused, 0 where nothing did
abbrev pub number_in : Option Refusal → ℕ
number_in None = 0
number_in (Some e) = number e

-- what appending the events es to the store s leaves and answers
pub record Appends (s : List ℕ) (es : List Event) (s' : List ℕ) (r : Appended) : Type 0 where
  pub number : number_in r.refused ≡ number_of s es
  pub store : s' ≡ after s (accepted_of s es)
  pub taken : r.taken ≡ length (accepted_of s es)
  pub used : r.used ≡ sum_over size (accepted_of s es)

-- THE CONTRACTS OF PRIVATE FUNCTIONS

-- the same of at most one event
pub record Steps (s : List ℕ) (es : List Event) (s' : List ℕ) (r : Result ℕ Refusal) : Type 0 where
  pub number : numbered r ≡ number_of s es
  pub store : s' ≡ after s (accepted_of s es)
  pub used : result_unwrap_or r 0 ≡ sum_over size (accepted_of s es)

-- r are points that a capture goes on with at byte `at`
pub record Runs (input : List ℕ) (at : ℕ) (r : Run) : Type 0 where
  pub long : length r.numbers ≡ 128
  pub few : r.count ≤ 64
  pub within : at + 4 * r.count ≤ length input
  pub events : events_in (drop at input) ≡ point_events (take (2 * r.count) r.numbers) ++ events_in (drop (at + 4 * r.count) input)

-- n events further on, what is left to do in the store s' from byte `to` on is what was left to do in s from byte `from` on
pub record Goes (s s' input : List ℕ) (from to n : ℕ) : Type 0 where
  pub within : to ≤ length input
  pub few : from + n ≤ to
  pub number : number_of s' (events_in (drop to input)) ≡ number_of s (events_in (drop from input))
  pub store : after s' (accepted_of s' (events_in (drop to input))) ≡ after s (accepted_of s (events_in (drop from input)))
  pub count : n + length (accepted_of s' (events_in (drop to input))) ≡ length (accepted_of s (events_in (drop from input)))
  pub bytes : to + sum_over size (accepted_of s' (events_in (drop to input))) ≡ from + sum_over size (accepted_of s (events_in (drop from input)))
