use Rattle.track_capture.proofs.CaptureLaws.{Copying}
use Rattle.track_capture.proofs.put_chain.Given as goal

abbrev pub invariant-loop-record : goal.invariant-loop-record
invariant-loop-record l = Copying l.fn.track.bytes.now l.initial.out l.out l.at l.record-iterator
