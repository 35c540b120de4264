use Prim.Native.Nat.{suc, ◌-◌}
use lib.ListN.{length}
use Rattle.listing.specs.Onward.{unless}
use Rattle.listing.proofs.Streams.{Streaming}
use Rattle.listing.proofs.stream.list_events.Given as goal

abbrev pub invariant-loop-event : goal.invariant-loop-event
invariant-loop-event l = Streaming l.input l.initial.out l.out l.initial.h l.h

abbrev pub decreases-loop-event : goal.decreases-loop-event
decreases-loop-event l = unless l.h.refusal (suc (length l.input - l.h.used)) 0
