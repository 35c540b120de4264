-- Computed values. Assumes nothing.
use mathlib.Core.Path.{refl}
use Rattle.scrambler.specs.Bits.{is_bit}
use Rattle.v41.specs.Polynomial.{step, remainder}
use Rattle.v41.specs.Block.{sizes, is_size, generator, leaves_nothing, bits_refusal, check_refusal, check_answer}
use Rattle.verdicts.specs.Verdicts.{decimal, verdict, line}
use Rattle.verdicts.specs.Laws.{Worked}

pub worked : Worked
unfolding is_bit sizes is_size generator leaves_nothing bits_refusal check_refusal check_answer remainder step decimal verdict line
worked = record { whole = refl; broken = refl }
