use Rattle.lent_sender.proofs.Sendings.{read_sent, read_unsent}
use Rattle.lent_sender.proofs.load_sent_reference.Goals as goal

pub returns-then-byte_at-clear : goal.returns-then-byte_at-clear
returns-then-byte_at-clear c = search read_sent

pub returns : goal.returns
returns c = search read_unsent
