use mathlib.Core.Path.{◌∙◌}
use mir.Facts.{to_z-of_z}
use Rattle.line.proofs.ByMode.{column-most}
use Rattle.deciding.proofs.RingLaws.{state_column}
use borrow.Author.Rules.{rules}
use Rattle.deciding.proofs.state_in.Goals as goal

pub state_of-requires : goal.state_of-requires
state_of-requires c = let h = column-most c.args.mode in search rules

pub returns : goal.returns
returns c =
    rw (to_z-of_z c.ranges.re, to_z-of_z c.ranges.im) at c.state_of.ensures ∙ state_column c.args.mode _ c.column_of.ensures c.args.re c.args.im
