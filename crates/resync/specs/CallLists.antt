-- Demand 3, the lists of calls: a receiver's list may have points and gaps, the demodulator's readings (document 02, R-3), and runs of
-- points by one call, in units or in levels. Such a list is the list of its single events.
use Rattle.std.specs.Prelude.{◌≡◌, List, [], ◌∷◌, ◌++◌, map, ℤ, Float}
use Rattle.line.specs.Refusal.{accepted}
use Rattle.receiver.specs.declared.Receiver.{Receiver}
use Rattle.receiver.specs.Receiver.{Event, point, next}
use Rattle.receiver.specs.Calls.{after, Heard, heard}
use Rattle.bulk.specs.Block.{Given, in_units, in_levels, points_of, Lent, block_refusal, state_of, block}
use Rattle.readings.specs.declared.Reading.{Reading}
use Rattle.readings.specs.Reading.{levels, event_of, reading_refusal, reading_answer, reading_next}

-- a point or a gap; a reading; points as numbers, in units or in levels, with so much lent for their line bits, data bits and distances
pub data Call : Type 0 where
  single : Event → Call
  reading : Reading → Call
  many : List ℤ → Lent → Call
  many_levels : List Float → Lent → Call

-- the state that the next call gets
abbrev pub next_of : Receiver → Call → Receiver
next_of s (single e) = next s e
next_of s (reading r) = reading_next s r
next_of s (many zs n) = state_of s (block s (in_units zs) n)
next_of s (many_levels vs n) = state_of s (block s (in_levels vs) n)

abbrev pub after_calls : Receiver → List Call → Receiver
after_calls s [] = s
after_calls s (c ∷ cs) = after_calls (next_of s c) cs

-- what is accepted by a call, with its answers: a reading is heard as the event that it rounds to, of an accepted block all points are,
-- and their answers are those that it writes
abbrev pub heard_block : Receiver → Given → Lent → List Heard
heard_block s g n = accepted (block_refusal s g n) (heard s (map point (points_of g))) []

abbrev pub heard_of : Receiver → Call → List Heard
heard_of s (single e) = heard s (e ∷ [])
heard_of s (reading r) = accepted (reading_refusal s r) (record { event = event_of r; answered = reading_answer s r } ∷ []) []
heard_of s (many zs n) = heard_block s (in_units zs) n
heard_of s (many_levels vs n) = heard_block s (in_levels vs) n

abbrev pub heard_calls : Receiver → List Call → List Heard
heard_calls s [] = []
heard_calls s (c ∷ cs) = heard_of s c ++ heard_calls (next_of s c) cs

-- the single events that a call stands for: the event of an accepted reading, the points of an accepted block, none for a refused one
abbrev pub block_events : Receiver → Given → Lent → List Event
block_events s g n = accepted (block_refusal s g n) (map point (points_of g)) []

abbrev pub singles_of : Receiver → Call → List Event
singles_of s (single e) = e ∷ []
singles_of s (reading r) = accepted (reading_refusal s r) (event_of r ∷ []) []
singles_of s (many zs n) = block_events s (in_units zs) n
singles_of s (many_levels vs n) = block_events s (in_levels vs) n

abbrev pub singles : Receiver → List Call → List Event
singles s [] = []
singles s (c ∷ cs) = singles_of s c ++ singles (next_of s c) cs

-- the state and the accepted calls are those of the single events
abbrev pub OneByOne : Type 0
OneByOne = (s : Receiver) (cs : List Call) → (after_calls s cs ≡ after s (singles s cs)) × (heard_calls s cs ≡ heard s (singles s cs))

-- floats are points in levels, re and im in turn
abbrev pub level_pairs : List Float → List Reading
level_pairs [] = []
level_pairs (x ∷ []) = []
level_pairs (x ∷ y ∷ vs) = levels (record { re = x; im = y }) ∷ level_pairs vs

-- many points in levels by one call are as many readings, one after the other
abbrev pub AsReadings : Type 0
AsReadings = (s : Receiver) (vs : List Float) (n : Lent) → block_refusal s (in_levels vs) n ≡ 0
    → (heard_of s (many_levels vs n) ≡ heard_calls s (map reading (level_pairs vs))) × (next_of s (many_levels vs n) ≡ after_calls s (map reading (level_pairs vs)))
