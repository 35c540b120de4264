use Rattle.listing.proofs.Lines.{Listing}
use Rattle.listing.proofs.put_chain.Given as goal

abbrev pub invariant-loop-record : goal.invariant-loop-record
invariant-loop-record l = Listing l.fn.track.bytes.now l.initial.out l.out l.initial.p.at l.initial.p.state l.p l.record-iterator
