use mathlib.Core.Path.{◌∙◌}
use Rattle.line.proofs.ByMode.{column-most}
use Rattle.deciding.proofs.RingLaws.{ring_column}
use Rattle.deciding.proofs.ring_of.Goals as goal

pub ring_in-requires : goal.ring_in-requires
ring_in-requires c = rw c.column_of.ensures (column-most c.args.mode)

pub returns : goal.returns
returns c = c.ring_in.ensures ∙ ring_column _ _ c.column_of.ensures
