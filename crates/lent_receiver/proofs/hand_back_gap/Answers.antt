use Rattle.lent_receiver.proofs.Receivings.{short_taken, handed_refused, handed_gap}
use borrow.Author.Rules.{rules}
use Rattle.lent_receiver.proofs.hand_back_gap.Goals as goal

pub returns-in-Err : goal.returns-in-Err
returns-in-Err c = handed_refused c.args.state.now c.args.answer.now c.args.o _ _ (search rules) c.refused.ensures

pub returns-then-answer-lt12 : goal.returns-then-answer-lt12
returns-then-answer-lt12 c = short_taken c.args.state.now c.args.answer.now c.args.o _ c.if-answer-lt12.true c.in-Ok-Gap.is

pub returns-else-answer-lt12 : goal.returns-else-answer-lt12
returns-else-answer-lt12 c = handed_gap c.args.state.now c.args.answer.now c.args.o c.if-answer-lt12.false _ _ _ c.put_receiver.ensures _ (search rules) c.put_answer.ensures
