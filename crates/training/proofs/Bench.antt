-- The bench points about training hold, by computation. Assumes nothing.
use mathlib.Core.Path.{refl}
use Rattle.line.specs.Table.{entry, row_from}
use Rattle.line.specs.Mode.{width, far_tap, guarded, capacity, quadrant, face}
use Rattle.coding.specs.Code.{changes4, changes8, changes16, coded, eighths, turn_row, group}
use Rattle.scrambler.specs.Register.{back, near_tap, counting, inverting, differs, count_after, push}
use Rattle.scrambler.specs.Scramble.{mix}
use Rattle.training.specs.Coder.{coding}
use Rattle.training.specs.Training.{reversals, changes, middle, train27, dibit_state, train32, train, start, intervals}
use Rattle.training.specs.Bench.{TrainingBench, GuardBench}

pub training_bench : TrainingBench
unfolding entry row_from width far_tap guarded capacity quadrant face changes4 changes8 changes16 coded eighths turn_row group back near_tap counting inverting differs count_after push mix coding reversals changes middle train27 dibit_state train32 train start
training_bench =
    record {
      mode_1 = record { choice_0 = record { starts = refl; ends = refl; ones = refl }; choice_1 = record { starts = refl; ends = refl; ones = refl } };
      mode_2 = record { choice_0 = record { starts = refl; ends = refl; ones = refl }; choice_1 = record { starts = refl; ends = refl; ones = refl } };
      mode_3 = record { role_0 = λ n. refl; role_1 = λ n. refl };
      mode_4 = record { role_0 = λ n. refl; role_1 = λ n. refl };
    }

pub guard_bench : GuardBench
unfolding entry row_from width far_tap guarded capacity quadrant face changes4 changes8 changes16 coded eighths turn_row group back near_tap counting inverting differs count_after push mix coding reversals changes middle train27 dibit_state train32 train start intervals
guard_bench =
    record {
      mode_5 = record { choice_0 = record { starts = refl; ends = refl; ones = refl }; choice_1 = record { starts = refl; ends = refl; ones = refl } };
      mode_6 = record { choice_0 = record { starts = refl; ends = refl; ones = refl }; choice_1 = record { starts = refl; ends = refl; ones = refl } };
      counts_5 = (refl, refl);
      counts_6 = (refl, refl);
    }
