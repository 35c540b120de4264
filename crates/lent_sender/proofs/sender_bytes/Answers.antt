use mathlib.Core.Path.{◌∙◌}
use Rattle.lent.proofs.StateLaws.{le_word}
use Rattle.lent_sender.specs.Sending.{sender_out}
use Rattle.lent_sender.proofs.sender_bytes.Goals as goal

pub returns : goal.returns
unfolding sender_out
returns c = rw (c.to_le_bytes.ensures ∙ le_word c.args.s.line.bits)
