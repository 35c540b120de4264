use Rattle.lent_receiver.specs.Receiving.{receiver_out}
use Rattle.lent_receiver.proofs.put_receiver.Goals as goal

pub returns : goal.returns
unfolding receiver_out
returns c = rw (c.put_word.ensures, c.reference_bytes.ensures) at c.put_word-2.ensures
