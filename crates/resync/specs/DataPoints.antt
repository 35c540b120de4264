-- Demand 3 and document 01, "Lists of calls": consecutive data points of a sender, and how a receiver gets them.
use Rattle.std.specs.Prelude.{ℕ, zero, suc, ◌+◌, ◌-◌, ◌≡◌, cond, List, [], ◌∷◌, ◌++◌, map, ◌⊎◌, eqb, ℤ, pos, nat_abs, length, get_or, take, drop}
use Rattle.line.specs.Point.{at}
use Rattle.receiver.specs.Receiver.{Event, point, gap}
use Rattle.receiver.specs.Calls.{row}
use Rattle.sender.specs.declared.Sender.{Sender}
use Rattle.sender.specs.Calls.{Send, DataPoint, data_points}
use Rattle.store.specs.Layout as Stored
use Rattle.store.specs.Store.{events, refusal}
use Rattle.store.specs.Reads.{read_number, read_count, read_result}
use Rattle.track.specs.Calls.{after, taken}

-- "Consecutive ones follow one another in one sender's list, across its calls." The list starts from any state; from one that numbers
-- 1, 2 and 4 do not let pass no call is accepted, and there are no data points.
pub record Consecutive (m role : ℕ) (ds : List DataPoint) : Type 0 where
  pub sender : Sender
  pub mode_is : sender.mode ≡ m
  pub role_is : sender.role ≡ role
  pub calls : List Send
  pub earlier : List DataPoint
  pub later : List DataPoint
  pub are : data_points sender calls ≡ earlier ++ (ds ++ later)

-- a data point as an event of a receiver, and of a store
abbrev pub received : List DataPoint → List Event
received ds = map (λ (d : DataPoint). point d.point) ds

abbrev pub appended : List DataPoint → List Stored.Event
appended ds = map (λ (d : DataPoint). Stored.point d.point) ds

-- the event in three numbers that `read` wrote: 1, re and im is a point; 2, a count and 0 a gap of that count
unfoldable pub event_in : ℤ → ℤ → ℤ → Event
event_in kind x y = cond (eqb (nat_abs kind) 1) (point (at x y)) (gap (nat_abs x))

-- n events in numbers, from the place k on
abbrev pub events_in : List ℤ → ℕ → ℕ → List Event
events_in ns k zero = []
events_in ns k (suc n) = event_in (get_or ns k (pos 0)) (get_or ns (k + 1) (pos 0)) (get_or ns (k + 2) (pos 0)) ∷ events_in ns (k + 3) n

-- "Read back: appended in this order, in one store's list, with no other accepted append between them, and handed on as read."
pub record ReadBack (ds : List DataPoint) (es : List Event) : Type 0 where
  pub store : List ℕ
  pub store-accepted : refusal store ≡ 0
  pub appends : List Stored.Event
  pub earlier : List Stored.Event
  pub later : List Stored.Event
  pub in_order : taken store appends ≡ earlier ++ (appended ds ++ later)
  pub lent : List ℤ
  pub offset : ℕ
  pub read_accepted : read_number (after store appends) (length lent) offset ≡ 0
  pub handed_on_lem :
      es
      ≡ take (length ds)
      (drop (length (events store) + length earlier)
      (events_in (read_result (after store appends) lent offset) offset (read_count (after store appends) (length lent) offset)))

-- "direct or read back from a store"; "Direct: handed to the receiver as written."
abbrev pub Handed : List DataPoint → List Event → Type 0
Handed ds es = (es ≡ received ds) ⊎ ReadBack ds es

-- the bits that the sender was given for the points from the n-th on, in one row
abbrev pub given_from : ℕ → List DataPoint → List ℕ
given_from n ds = row (map (λ (d : DataPoint). d.bits) (drop (n - 1) ds))
