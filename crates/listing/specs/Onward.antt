-- What events add to what a block gave so far: the contracts of the private functions of stream.rt.
use Rattle.std.specs.Prelude.{Option, Some, None, List, [], map, ℕ, ◌+◌, length}
use Rattle.line.specs.declared.refusal.Refusal.{Refusal}
use Rattle.receiver.specs.declared.Receiver.{Receiver}
use Rattle.receiver.specs.Receiver.{Answer, refused, reference, decoded, lost}
use Rattle.receiver.specs.Calls.{after}
use Rattle.store.specs.Chain.{sum_over}
use Rattle.store.specs.Layout.{Event}
use Rattle.summing.specs.declared.EventSums.{EventSums}
use Rattle.summing.specs.Sums.{sums_of, plus}
use Rattle.capture.specs.Capture.{size}
use Rattle.listing.specs.declared.stream.ListedEvents.{ListedEvents}
use Rattle.listing.specs.Text.{line_text, taken, lines}
use Rattle.listing.specs.Stream.{until_refused, first_refused, refusal_of}

-- the first of two refusals
abbrev pub first_of : Option Refusal → Option Refusal → Option Refusal
first_of None b = b
first_of (Some e) b = Some e

-- what there is without a refusal, and with one
abbrev pub unless : {A : Type 0} → Option Refusal → A → A → A
unless None a b = a
unless (Some e) a b = b

-- before the first event; r is what refuses the call
abbrev pub begun : Receiver → EventSums → Option Refusal → ListedEvents
begun s v r = record { state = s; sums = v; count = 0; used = 0; refusal = r }

-- the lines of some more events
unfoldable pub more_lines : ListedEvents → List Event → List ℕ
more_lines h es = lines h.state (map taken (until_refused h.state es))

-- and what is given with them
unfoldable pub onward : ListedEvents → List Event → ListedEvents
onward h es =
    let ts : List Event = until_refused h.state es in
    record {
      state = after h.state (map taken ts);
      sums = plus h.sums (sums_of ts);
      count = h.count + length (more_lines h es);
      used = h.used + sum_over size ts;
      refusal = first_of h.refusal (refusal_of (first_refused h.state es));
    }

-- ONE EVENT, by its answer

abbrev pub stopped : ListedEvents → ℕ → ListedEvents
stopped h n = record { state = h.state; sums = h.sums; count = h.count; used = h.used; refusal = refusal_of n }

-- with the state t, the text up to `end`, b bytes more of the block, and the event's own sums
abbrev pub further : ListedEvents → Receiver → ℕ → ℕ → EventSums → ListedEvents
further h t end b v = record { state = t; sums = plus h.sums v; count = end; used = h.used + b; refusal = None }

abbrev pub answer_text : ℕ → Answer → List ℕ
answer_text place (refused n) = []
answer_text place (reference d) = line_text place (reference d)
answer_text place (decoded ls ds d) = line_text place (decoded ls ds d)
answer_text place (lost n) = line_text place (lost n)

abbrev pub answer_sums : Answer → EventSums
answer_sums (refused n) = record { points = 0; lost = 0; gaps = 0 }
answer_sums (reference d) = record { points = 1; lost = 0; gaps = 0 }
answer_sums (decoded ls ds d) = record { points = 1; lost = 0; gaps = 0 }
answer_sums (lost n) = record { points = 0; lost = n; gaps = 1 }

abbrev pub answered : ListedEvents → Answer → Receiver → ℕ → ListedEvents
answered h (refused n) t b = stopped h n
answered h (reference d) t b = further h t (h.count + length (line_text h.state.place.0 (reference d))) b (answer_sums (reference d))
answered h (decoded ls ds d) t b = further h t (h.count + length (line_text h.state.place.0 (decoded ls ds d))) b (answer_sums (decoded ls ds d))
answered h (lost n) t b = further h t (h.count + length (line_text h.state.place.0 (lost n))) b (answer_sums (lost n))
