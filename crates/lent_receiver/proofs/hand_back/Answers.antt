use Rattle.lent_receiver.proofs.Receivings.{short_taken, handed_refused, handed_reference, handed_bits, handed_gap}
use borrow.Author.Rules.{rules}
use Rattle.lent_receiver.proofs.hand_back.Goals as goal

pub returns-in-Err : goal.returns-in-Err
returns-in-Err c = handed_refused c.args.state.now c.args.answer.now c.args.o _ _ (search rules) c.refused.ensures

pub returns-then-answer-lt12 : goal.returns-then-answer-lt12
returns-then-answer-lt12 c = short_taken c.args.state.now c.args.answer.now c.args.o _ c.if-answer-lt12.true c.in-Ok-Referenced.is

pub returns-then-answer-lt12-2 : goal.returns-then-answer-lt12-2
returns-then-answer-lt12-2 c = short_taken c.args.state.now c.args.answer.now c.args.o _ c.if-answer-lt12-2.true c.in-Ok-Bits.is

pub returns-then-answer-lt12-3 : goal.returns-then-answer-lt12-3
returns-then-answer-lt12-3 c = short_taken c.args.state.now c.args.answer.now c.args.o _ c.if-answer-lt12-3.true c.in-Ok-Gap.is

pub returns-else-answer-lt12 : goal.returns-else-answer-lt12
returns-else-answer-lt12 c = handed_reference c.args.state.now c.args.answer.now c.args.o c.if-answer-lt12.false _ _ _ c.put_receiver.ensures _ (search rules) c.put_answer.ensures

pub returns-else-answer-lt12-2 : goal.returns-else-answer-lt12-2
returns-else-answer-lt12-2 c = handed_bits c.args.state.now c.args.answer.now c.args.o c.if-answer-lt12-2.false _ _ _ c.put_receiver-in-Ok-Bits.ensures _ _ (search rules) c.put_answer-in-Ok-Bits.ensures

pub returns-else-answer-lt12-3 : goal.returns-else-answer-lt12-3
returns-else-answer-lt12-3 c = handed_gap c.args.state.now c.args.answer.now c.args.o c.if-answer-lt12-3.false _ _ _ c.put_receiver-in-Ok-Gap.ensures _ (search rules) c.put_answer-in-Ok-Gap.ensures
