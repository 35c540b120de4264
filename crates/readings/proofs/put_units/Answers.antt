use lib.Ieee.{nan}
use Rattle.line.proofs.TableLaws.{every-placed}
use Rattle.levels.specs.Levels.{in_reach}
use Rattle.readings.proofs.LevelLaws.{put_step, fitting}
use Rattle.readings.proofs.put_units.Goals as goal

pub loop-k-preserved : goal.loop-k-preserved
loop-k-preserved c =
    put_step _ _ c.loop-k.units c.loop-k.k c.loop-k.invariant _ c.loop-k-test.true
    (fitting _ _ (every-placed in_reach nan c.loop-k.k c.args.levels.now c.loop-k-test.true c.requires.0) c.nearest.ensures)
