-- A capture that is received and listed block by block, as the command `receive` does: the lines of its events are those of a listing, and
-- the state and the sums go from one block to the next.
use Rattle.std.specs.Prelude.{Bool, ◌&&◌, Option, Some, None, List, [], ◌∷◌, map, ℕ, zero, suc, ◌+◌, ◌*◌, leb, length}
use Rattle.std.proofs.lemmas.List.Edits.{sets}
use Rattle.line.specs.declared.refusal.Refusal.{Refusal}
use Rattle.line.specs.Refusal.{number, named, need, or_next, accepted}
use Rattle.receiver.specs.declared.Receiver.{Receiver}
use Rattle.receiver.specs.Receiver.{state_refusal, refusal, next}
use Rattle.receiver.specs.Calls.{after}
use Rattle.store.specs.Chain.{sum_over}
use Rattle.store.specs.Layout.{Event}
use Rattle.summing.specs.declared.EventSums.{EventSums}
use Rattle.summing.specs.Sums.{sums_of, plus}
use Rattle.capture.specs.Capture.{size, events_in}
use Rattle.listing.specs.declared.stream.ListedEvents.{ListedEvents}
use Rattle.listing.specs.Text.{taken, lines}

-- UP TO THE FIRST REFUSED EVENT

-- the events before the first that a receiver refuses
abbrev pub until_refused : Receiver → List Event → List Event
until_refused s [] = []
until_refused s (e ∷ es) = accepted (refusal s (taken e)) (e ∷ until_refused (next s (taken e)) es) []

-- the number that refuses that one, 0 where none is refused
abbrev pub first_refused : Receiver → List Event → ℕ
first_refused s [] = 0
first_refused s (e ∷ es) = or_next (refusal s (taken e)) (first_refused (next s (taken e)) es)

-- THE REFUSALS OF THE CALL

-- sums of what a receiver took up to a place: each interval is a decided point or lost, and a gap has an interval at least. So they are
-- numbers of 32 bits, as the place is.
unfoldable pub sums_ok : EventSums → ℕ → Bool
sums_ok v place = leb (v.points + v.lost) place && leb v.gaps v.lost

-- the most bytes in a block
abbrev pub longest_block : ℕ
longest_block = 65536

-- a state's own numbers; 4 for sums that are not of what it took; 7 for a block of too many bytes, n, and for fewer lent bytes than 7 for
-- each of them: the line of an event has at most 27, a point 4 bytes of the block and a lost count 8 (`NoneCut` of specs/Blocks)
unfoldable pub block_refusal : Receiver → EventSums → ℕ → ℕ → ℕ
block_refusal s v n room =
    or_next (state_refusal s)
    (need (sums_ok v s.place.0) 4
    (need (leb n longest_block) 7
    (need (leb (7 * n) room) 7 0)))

-- WHAT IT GIVES

-- the refusal of a number, none of 0
abbrev pub refusal_of : ℕ → Option Refusal
refusal_of zero = None
refusal_of (suc n) = Some (named (suc n))

-- and its number, 0 where nothing refuses
abbrev pub number_in : Option Refusal → ℕ
number_in None = 0
number_in (Some e) = number e

-- the events that it is to take: none where the call is refused
unfoldable pub block_events : Receiver → EventSums → List ℕ → ℕ → List Event
block_events s v bs room = accepted (block_refusal s v (length bs) room) (events_in bs) []

-- those that it takes
unfoldable pub block_taken : Receiver → EventSums → List ℕ → ℕ → List Event
block_taken s v bs room = until_refused s (block_events s v bs room)

-- the state after them, the sums with theirs, how many bytes their lines have and how many they have in the block; what refuses the call, or
-- else the event behind them
unfoldable pub listed_events : Receiver → EventSums → List ℕ → ℕ → ListedEvents
listed_events s v bs room =
    let es : List Event = block_taken s v bs room in
    record {
      state = after s (map taken es);
      sums = plus v (sums_of es);
      count = length (lines s (map taken es));
      used = sum_over size es;
      refusal = refusal_of (or_next (block_refusal s v (length bs) room) (first_refused s (block_events s v bs room)));
    }

-- the lent bytes after the call: their lines at the start, the others as they were
unfoldable pub listed_bytes : Receiver → EventSums → List ℕ → List ℕ → List ℕ
listed_bytes s v bs out = sets out 0 (lines s (map taken (block_taken s v bs (length out))))
