use mathlib.Core.Path.{◌≡◌}
use mathlib.Core.Bool.{◌&&◌}
use lib.ListN.{drop}
use Rattle.line.specs.Table.{every}
use Rattle.scrambler.specs.Bits.{is_bit}
use Rattle.bits.proofs.are_bits.Given as goal

abbrev pub invariant-loop-x : goal.invariant-loop-x
invariant-loop-x l = every is_bit l.input ≡ l.all && every is_bit (drop l.x-index l.input)
