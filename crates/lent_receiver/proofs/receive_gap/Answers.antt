use Rattle.receiver.specs.Receiver.{gap}
use Rattle.lent_receiver.proofs.Receivings.{call_short, call_done, gap_no_point}
use borrow.Author.Rules.{rules}
use Rattle.lent_receiver.proofs.receive_gap.Goals as goal

pub returns-then-state-lt16 : goal.returns-then-state-lt16
returns-then-state-lt16 c = call_short c.args.state.now c.args.answer.now (gap c.args.n) c.if-state-lt16.true

pub hand_back_gap-requires : goal.hand_back_gap-requires
hand_back_gap-requires c = (search rules, gap_no_point _ _ _ c.receive_gap-o.ensures.value)

pub returns : goal.returns
returns c =
    call_done c.args.state.now c.args.answer.now (gap c.args.n) _ _ _ _ _ c.if-state-lt16.false c.load_receiver.ensures c.receive_gap-o.ensures.value c.hand_back_gap.ensures
