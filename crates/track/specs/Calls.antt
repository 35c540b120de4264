-- Document 01, "Lists of calls": a store's list has appends, of points and lost counts; refused calls belong to it.
use Rattle.std.specs.Prelude.{◌≡◌, List, [], ◌∷◌, ◌++◌, ℕ, ◌+◌, ◌*◌, ◌≤◌, ℤ, length}
use Rattle.std.proofs.lemmas.List.Edits.{sets}
use Rattle.line.specs.Refusal.{accepted}
use Rattle.store.specs.Chain.{sum_over}
use Rattle.store.specs.Layout.{Event, point, lost, intervals}
use Rattle.store.specs.Store.{events, total, refusal}
use Rattle.store.specs.Reads.{numbers, read_number, read_count, read_result}
use Rattle.track.specs.Append.{make_number, make_result, point_number, point_result, lost_number, lost_result}

-- the append of an event: its number, and the store that it leaves
abbrev pub call_number : List ℕ → Event → ℕ
call_number s (point p) = point_number s p
call_number s (lost n) = lost_number s n

abbrev pub call_result : List ℕ → Event → List ℕ
call_result s (point p) = point_result s p
call_result s (lost n) = lost_result s n

-- points plus lost intervals
abbrev pub intervals_of : List Event → ℕ
intervals_of es = sum_over intervals es

-- the store after a list of appends, and the events of those that were accepted
abbrev pub after : List ℕ → List Event → List ℕ
after s [] = s
after s (e ∷ es) = after (call_result s e) es

abbrev pub taken : List ℕ → List Event → List Event
taken s [] = []
taken s (e ∷ es) = accepted (call_number s e) (e ∷ taken (call_result s e) es) (taken (call_result s e) es)

-- no append of a list is refused, each in the store that the one before left
abbrev pub EachAccepted : List ℕ → List Event → Type 0
EachAccepted s [] = Unit {0}
EachAccepted s (e ∷ es) = (call_number s e ≡ 0) × EachAccepted (call_result s e) es

-- WHAT A LIST LEAVES

-- the store is accepted, its events are es, and reading it into lent numbers that suffice gives just these
pub record Holds (s : List ℕ) (es : List Event) : Type 0 where
  pub accepted_yet : refusal s ≡ 0
  pub events_are : events s ≡ es
  pub read : (out : List ℤ) (offset : ℕ) → offset + 3 * length es ≤ length out
      → (read_number s (length out) offset ≡ 0) × (read_count s (length out) offset ≡ length es) × (read_result s out offset ≡ sets out offset (numbers es))

-- "Reading then gives the events held at the start and those of the accepted appends, in order": any list of appends, refused ones
-- anywhere in it, on any accepted store
abbrev pub AppendsRead : Type 0
AppendsRead = (s : List ℕ) (es : List Event) → refusal s ≡ 0 → Holds (after s es) (events s ++ taken s es)

-- and on a store just made, which is accepted and empty
abbrev pub MadeEmpty : Type 0
MadeEmpty = (s : List ℕ) (mode role : ℕ) → make_number s mode role ≡ 0 → Holds (make_result s mode role) []

abbrev pub MadeRead : Type 0
MadeRead = (s : List ℕ) (mode role : ℕ) (es : List Event) → make_number s mode role ≡ 0
    → Holds (after (make_result s mode role) es) (taken (make_result s mode role) es)

-- "The total grows with each append and equals points plus lost intervals."
abbrev pub TotalGrows : Type 0
TotalGrows = (s : List ℕ) (e : Event) → call_number s e ≡ 0 → total (call_result s e) ≡ total s + intervals e

abbrev pub TotalSums : Type 0
TotalSums = (s : List ℕ) → refusal s ≡ 0 → total s ≡ intervals_of (events s)
