use Rattle.std.proofs.Common.{arith}
use Rattle.verdicts.proofs.Calls.{size_some, fault_law}
use Rattle.verdicts.proofs.lines_fault.Goals as goal

pub nonzero_div-room : goal.nonzero_div-room
nonzero_div-room c = size_some c.args.size c.args.place c.args.lent c.args.input.now _ c.size_ok.ensures c.in_ok-need.ensures

pub returns : goal.returns
returns c = fault_law c.args.size c.args.place c.args.lent _ _ c.size_ok.ensures c.in_ok-need.ensures _ _ c.are_bits.ensures c.in_ok-need-2.ensures (omega arith) c.need-3.ensures
