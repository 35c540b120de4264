use Rattle.store.proofs.Readings.{Counting}
use Rattle.store.proofs.count_events.Given as goal

abbrev pub invariant-loop-record : goal.invariant-loop-record
invariant-loop-record l = Counting l.fn.track.bytes.now l.n l.record-iterator
