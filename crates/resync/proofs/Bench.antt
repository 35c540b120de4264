-- The bench points hold. Assumes nothing.
use mathlib.Core.Path.{refl}
use Rattle.line.specs.Table.{entry}
use Rattle.line.specs.Mode.{step, quarter_steps, quadrant, next_quadrant, turn, face}
use Rattle.line.specs.Point.{is_origin}
use Rattle.deciding.specs.Decide.{in_first, sector, outer, first, quarters, decide}
use Rattle.coding.specs.Code.{changes16, coded}
use Rattle.training.proofs.Bench.{training_bench}
use Rattle.resync.specs.Bench.{BenchPoints}

pub bench_points_lem : BenchPoints
unfolding entry step quarter_steps quadrant next_quadrant turn face is_origin in_first sector outer first quarters decide changes16 coded
bench_points_lem =
    ((refl, (refl, (refl, (refl, tt)))), ((refl, (refl, tt)), ((refl, (refl, tt)), ((refl, (refl, tt)), (training_bench, (refl, tt))))))
