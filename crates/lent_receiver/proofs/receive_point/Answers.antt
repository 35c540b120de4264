use Rattle.lent_receiver.proofs.Receivings.{call_short, call_done}
use mir.Facts.{to_z-of_z}
use Rattle.line.specs.Point.{at}
use Rattle.receiver.specs.Receiver.{point}
use Rattle.lent_receiver.proofs.receive_point.Goals as goal

pub returns-then-state-lt16 : goal.returns-then-state-lt16
returns-then-state-lt16 c = call_short c.args.state.now c.args.answer.now (point (at c.args.re c.args.im)) c.if-state-lt16.true

pub returns : goal.returns
returns c = call_done c.args.state.now c.args.answer.now (point (at c.args.re c.args.im)) _ _ _ _ _ c.if-state-lt16.false c.load_receiver.ensures (rw (to_z-of_z c.ranges.re, to_z-of_z c.ranges.im) at c.receive_point-o.ensures.value) c.hand_back.ensures
