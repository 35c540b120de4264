use Rattle.lent_receiver.specs.Receiving.{answer_bytes}
use Rattle.lent_receiver.proofs.put_answer.Goals as goal

pub returns : goal.returns
unfolding answer_bytes
returns c = rw c.put_word.ensures at c.put_word-2.ensures
