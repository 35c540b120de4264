use Rattle.lent_sender.proofs.Sendings.{open_short, open_done}
use Rattle.lent_sender.proofs.open.Goals as goal

pub returns-then-state-lt16 : goal.returns-then-state-lt16
returns-then-state-lt16 c = open_short c.args.state.now c.args.mode c.args.role c.args.length c.args.out.now c.args.offset _ _ c.if-state-lt16.true c.open_refusal-fault.ensures c.or_next.ensures

pub returns : goal.returns
returns c = open_done c.args.state.now c.args.mode c.args.role c.args.length c.args.out.now c.args.offset _ _ _ _ c.if-state-lt16.false c.open-sent.ensures.value c.open-sent.ensures.out_after c.open-sent.ensures.told c.put_sent.ensures
