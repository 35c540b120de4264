use mathlib.Core.List.{[], ◌∷◌}
use Rattle.line.proofs.Sets.{sets_out}
use mathlib.Core.Path.{sym}
use Rattle.octets.proofs.put8.Goals as goal

pub returns-else-at-s : goal.returns-else-at-s
returns-else-at-s c = sym (sets_out (c.args.v ∷ []) c.args.s.now c.args.at c.if-at-s.false)
