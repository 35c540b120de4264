use Rattle.lent_receiver.proofs.Receivings.{refused_late, refused_early}
use Rattle.lent_receiver.proofs.refused.Goals as goal

pub returns-then-answer-number : goal.returns-then-answer-number
returns-then-answer-number c = refused_late c.args.refusal c.args.answer _ c.number.ensures c.if-answer-number.true

pub returns : goal.returns
returns c = refused_early c.args.refusal c.args.answer _ c.number.ensures c.if-answer-number.false
