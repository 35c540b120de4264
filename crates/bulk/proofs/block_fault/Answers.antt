use mathlib.Core.Path.{refl}
use native.Mathlib.Omega.{arith}
use Rattle.bulk.specs.Block.{coordinate_fault}
use Rattle.bulk.proofs.BlockLaws.{fault_room}
use Rattle.bulk.proofs.block_fault.Goals as goal

pub returns : goal.returns
unfolding coordinate_fault
returns c = fault_room c.args.s _ _ _ _ _ (omega (arith, c.well_formed)) refl c.in_ok-state_fault.ensures c.in_ok-need.ensures (rw c.all_in_range.ensures at c.in_ok-need-2.ensures) c.need-3.ensures
