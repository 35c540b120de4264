use mathlib.Core.Path.{refl}
use native.Mathlib.Omega.{arith}
use borrow.Author.Rules.{rules}
use Rattle.bulk.proofs.BlockLaws.{fault_room}
use Rattle.readings.proofs.block_fault.Goals as goal

pub returns : goal.returns
returns c = fault_room c.args.s _ _ _ _ _ (omega (arith, c.well_formed)) refl c.in_ok-state_fault.ensures c.in_ok-need.ensures (search rules) c.need-2.ensures
