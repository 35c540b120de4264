use Rattle.octets.proofs.Loops.{part_zeros}
use Rattle.octets.proofs.zero_from.Goals as goal

pub returns-after-loop-x : goal.returns-after-loop-x
returns-after-loop-x c =
    part_zeros c.args.s.now c.in-Some.rest.now c.args.at _ c.loop-x.clear c.in-Some.ensures.lookup.0.2 c.loop-x-test.false c.loop-x.invariant
