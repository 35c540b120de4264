use Rattle.store.proofs.Readings.{Copying}
use Rattle.store.proofs.put_chain.Given as goal

abbrev pub invariant-loop-record : goal.invariant-loop-record
invariant-loop-record l = Copying l.fn.track.bytes.now l.initial.out l.out l.offset l.at l.record-iterator
