-- Computed values. Assumes nothing.
use mathlib.Core.Path.{refl}
use Rattle.line.specs.Refusal.{named}
use Rattle.scrambler.specs.Bits.{is_bit}
use Rattle.v41.specs.Polynomial.{step, remainder}
use Rattle.v41.specs.Block.{sizes, is_size, generator, leaves_nothing, check_bits, block, bits_refusal, check_refusal, check_answer}
use Rattle.v41.specs.Laws.{Worked}

pub worked : Worked
unfolding named is_bit sizes is_size generator leaves_nothing check_bits block bits_refusal check_refusal check_answer remainder step
worked =
    record { of_0101 = refl; of_digits = refl; as_printed = refl; whole = refl; broken = refl; above_1 = refl; another_size = refl }
