use Rattle.summing.proofs.Walks.{Summing}
use Rattle.summing.proofs.chain_sums.Given as goal

abbrev pub invariant-loop-record : goal.invariant-loop-record
invariant-loop-record l = Summing l.fn.track.bytes.now l.v l.record-iterator
