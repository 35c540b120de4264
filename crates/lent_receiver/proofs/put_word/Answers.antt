use native.Mathlib.Omega.{arith}
use Rattle.lent_receiver.proofs.Receivings.{put_word_law}
use Rattle.lent_receiver.proofs.put_word.Goals as goal

pub returns : goal.returns
returns c = put_word_law c.args.b.now _ _ c.args.at _ c.args.n c.requires (omega arith) c.copy_from_slice.ensures.after c.to_le_bytes.ensures
