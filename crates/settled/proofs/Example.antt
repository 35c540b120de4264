-- Computed values. Assumes nothing.
use mathlib.Core.Path.{refl}
use Rattle.line.specs.Mode.{is_mode, width}
use Rattle.line.specs.Refusal.{named}
use Rattle.settled.specs.Run.{run_points, run_data, run_bits, run_refusal, run_of, run_answer, run_bytes}
use Rattle.settled.specs.Laws.{Worked}

pub worked : Worked
unfolding named is_mode width run_points run_data run_bits run_refusal run_of run_answer run_bytes
worked = record { told = refl; written = refl; too_few = refl }
