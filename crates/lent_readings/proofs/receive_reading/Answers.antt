use Rattle.lent_readings.proofs.LentLaws.{refused_done, point_done, gap_done}
use borrow.Author.Rules.{rules}
use Rattle.lent_readings.proofs.receive_reading.Goals as goal

pub returns-in-Err : goal.returns-in-Err
returns-in-Err c = refused_done c.args.state.now c.args.answer.now c.args.reading _ c.in_units.ensures _ _ (search rules) c.refused.ensures

pub returns-in-Ok-Point : goal.returns-in-Ok-Point
returns-in-Ok-Point c = point_done c.args.state.now c.args.answer.now c.args.reading _ c.in_units.ensures _ _ _ _ (search rules) c.receive_point.ensures

pub returns-in-Ok-Gap : goal.returns-in-Ok-Gap
returns-in-Ok-Gap c = gap_done c.args.state.now c.args.answer.now c.args.reading _ c.in_units.ensures _ _ _ _ (search rules) c.receive_gap.ensures
