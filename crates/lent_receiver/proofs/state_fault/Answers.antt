use Rattle.lent_receiver.proofs.Receivings.{fault_short, fault_of_lem}
use Rattle.lent_receiver.proofs.state_fault.Goals as goal

pub returns-then-state-lt16 : goal.returns-then-state-lt16
returns-then-state-lt16 c = fault_short c.args.state.now c.if-state-lt16.true

pub returns : goal.returns
returns c = fault_of_lem c.args.state.now _ _ c.if-state-lt16.false c.load_receiver.ensures c.state_fault.ensures
