-- Document 01, "Lists of calls": a store's list in which `append_points` may take any run of points is the list of its single appends.
use Rattle.std.specs.Prelude.{◌≡◌, List, [], ◌∷◌, ◌++◌, ℕ, ℤ}
use Rattle.line.specs.Refusal.{accepted}
use Rattle.store.specs.Layout.{Event}
use Rattle.track.specs.Calls.{call_result, after, taken}
use Rattle.track.specs.Points.{point_events, points_number, points_result}

-- a point or a lost count; or points as numbers
pub data Call : Type 0 where
  single : Event → Call
  many : List ℤ → Call

-- the store that the next call gets
abbrev pub leaves : List ℕ → Call → List ℕ
leaves s (single e) = call_result s e
leaves s (many zs) = points_result s zs

abbrev pub after_calls : List ℕ → List Call → List ℕ
after_calls s [] = s
after_calls s (c ∷ cs) = after_calls (leaves s c) cs

-- the events that a call appends: of accepted points all, of a refused call none
abbrev pub taken_of : List ℕ → Call → List Event
taken_of s (single e) = taken s (e ∷ [])
taken_of s (many zs) = accepted (points_number s zs) (point_events zs) []

abbrev pub taken_calls : List ℕ → List Call → List Event
taken_calls s [] = []
taken_calls s (c ∷ cs) = taken_of s c ++ taken_calls (leaves s c) cs

-- the single appends that a call stands for
abbrev pub singles_of : List ℕ → Call → List Event
singles_of s (single e) = e ∷ []
singles_of s (many zs) = accepted (points_number s zs) (point_events zs) []

abbrev pub singles : List ℕ → List Call → List Event
singles s [] = []
singles s (c ∷ cs) = singles_of s c ++ singles (leaves s c) cs

-- the store after the list and the events that it takes are those of the single appends
abbrev pub OneByOne : Type 0
OneByOne = (s : List ℕ) (cs : List Call) → (after_calls s cs ≡ after s (singles s cs)) × (taken_calls s cs ≡ taken s (singles s cs))
