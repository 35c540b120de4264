use mathlib.Core.Path.{sym, ◌∙◌}
use mir.Facts.{to_z-of_z}
use Rattle.line.proofs.ByMode.{column-most}
use Rattle.deciding.proofs.RingLaws.{state_column}
use Rattle.deciding.proofs.DecideLaws.{told_origin, told_state}
use Rattle.deciding.proofs.decide.Goals as goal

pub returns-then-is_origin : goal.returns-then-is_origin
returns-then-is_origin c =
    let answer = told_origin c.args.mode c.args.re c.args.im (sym (rw (to_z-of_z c.ranges.re, to_z-of_z c.ranges.im) at c.is_origin.ensures) ∙ c.if-is_origin.true) in
    record { value = answer.0; told = answer.1 }

pub state_of-state-requires : goal.state_of-state-requires
state_of-state-requires c = rw c.column_of.ensures (column-most c.args.mode)

pub returns : goal.returns
returns c =
    let answer = told_state c.args.mode c.args.re c.args.im _ _
    (rw (to_z-of_z c.ranges.re, to_z-of_z c.ranges.im) at c.state_of-state.ensures ∙ state_column c.args.mode _ c.column_of.ensures c.args.re c.args.im)
    (rw (to_z-of_z c.ranges.re, to_z-of_z c.ranges.im) at c.distance.ensures)
    (sym (rw (to_z-of_z c.ranges.re, to_z-of_z c.ranges.im) at c.is_origin.ensures) ∙ c.if-is_origin.false) in
    record { value = answer.0; told = answer.1 }
