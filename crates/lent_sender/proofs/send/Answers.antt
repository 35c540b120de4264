use Rattle.std.proofs.Common.{ap, ◌∙◌}
use Rattle.line.specs.Refusal.{or_next}
use Rattle.lent_sender.proofs.Sendings.{send_short, send_done}
use Rattle.lent_sender.proofs.send.Goals as goal

pub returns-then-state-lt16 : goal.returns-then-state-lt16
returns-then-state-lt16 c = send_short c.args.state.now c.args.input.now c.args.out.now c.args.offset _ _ c.if-state-lt16.true c.are_bits.ensures (c.or_next.ensures ∙ ap (λ n. or_next n 7) c.need-fault.ensures)

pub returns : goal.returns
returns c = send_done c.args.state.now c.args.input.now c.args.out.now c.args.offset _ _ _ _ _ c.if-state-lt16.false c.load_sender.ensures c.send-sent.ensures.value c.send-sent.ensures.out_after c.send-sent.ensures.told c.put_sent.ensures
