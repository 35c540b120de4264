-- A capture: points and lost intervals in a file, as the commands `store`, `points`, `send` and `receive` read and write them. A point is re,
-- then im, two signed 16-bit numbers, little-endian. Lost intervals are the pair (−32768, −32768), which no point in range is, and their count
-- in the next four bytes. Its events are those of a track: each point and each lost count one.
use Rattle.std.specs.Prelude.{cond, Option, Some, None, List, [], ◌∷◌, ◌++◌, ℕ, zero, suc, eqb, ltb, ℤ, length, drop}
use Rattle.line.specs.Point.{at}
use Rattle.octets.specs.Number.{u32, le32, le_i16}
use Rattle.store.specs.Chain.{sum_over}
use Rattle.store.specs.Layout.{Event, point, lost, point_at, point_bytes}
use Rattle.capture.specs.declared.Event.{Event as Read}
use Rattle.capture.specs.declared.Event.TheVariants.{Point, Lost}

-- WRITING

-- −32768 and −32768
abbrev pub lost_mark : List ℕ
lost_mark = 0 ∷ 128 ∷ 0 ∷ 128 ∷ []

abbrev pub event_bytes : Event → List ℕ
event_bytes (point p) = point_bytes p
event_bytes (lost n) = lost_mark ++ le32 n

abbrev pub captured : List Event → List ℕ
captured [] = []
captured (e ∷ es) = event_bytes e ++ captured es

-- numbers of points, re and im in turn
abbrev pub number_bytes : List ℤ → List ℕ
number_bytes [] = []
number_bytes (z ∷ zs) = le_i16 z ++ number_bytes zs

-- READING

-- the mark, as the number in four bytes
abbrev pub mark_number : ℕ
mark_number = 2147516416

-- the event that bytes begin with; none where they end before it does
unfoldable pub first : List ℕ → List Event
first bs =
    cond (ltb (length bs) 4) []
    (cond (eqb (u32 bs 0) mark_number)
    (cond (ltb (length bs) 8) [] (lost (u32 bs 4) ∷ []))
    (point (point_at bs) ∷ []))

-- how many bytes an event has
abbrev pub size : Event → ℕ
size (point p) = 4
size (lost n) = 8

abbrev pub then : List Event → (Event → List Event) → List Event
then [] f = []
then (e ∷ es) f = f e

-- the events of a capture one after the other, at most k of them
abbrev pub events_from : ℕ → List ℕ → List Event
events_from zero bs = []
events_from (suc k) bs = then (first bs) (λ e. e ∷ events_from k (drop (size e) bs))

-- all of them: there are fewer than bytes
unfoldable pub events_in : List ℕ → List Event
events_in bs = events_from (length bs) bs

-- what is left behind them: fewer bytes than the next event has
unfoldable pub rest_in : List ℕ → List ℕ
rest_in bs = drop (sum_over size (events_in bs)) bs

-- what each case of an event that is read says, and what `next_event` says
abbrev pub event_of : Read → Event
event_of (Point re im) = point (at re im)
event_of (Lost n) = lost n

abbrev pub told : Option Read → List Event
told None = []
told (Some e) = event_of e ∷ []
