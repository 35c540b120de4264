use mathlib.Core.Path.{sym, ◌∙◌}
use native.Mathlib.Omega.{arith}
use Rattle.store.proofs.Records.{rec_byte}
use Rattle.track.proofs.held_in.Goals as goal

pub returns : goal.returns
returns c = c.get8.ensures.0 ∙ sym (rec_byte c.args.s.now c.args.i 3 (omega arith))
