use mathlib.Core.Path.{sym}
use borrow.Author.Rules.{rules}
use Rattle.std.proofs.lemmas.Result.{err_from_is_err_and}
use Rattle.bulk.proofs.BlockLaws.{one_by_one, refused_law, taken_law, holds}
use Rattle.readings.proofs.LevelLaws.{fault_levels, all_reached, whole_levels}
use Rattle.readings.proofs.receive_levels.Goals as goal

pub returns-in_err-block_fault : goal.returns-in_err-block_fault
returns-in_err-block_fault c =
    let p = err_from_is_err_and c.from_residual.result c.from_residual.ensures.1 in
    let answer = refused_law _ _ _ _ (fault_levels _ c.args.levels.now _ _ _ c.coordinates_fault-coordinates.ensures c.in_err-block_fault.ensures) in
    record { value = rw (p.1, p.2) answer.0; told = rw (p.1, p.2) answer.1 }

pub hear_levels-requires : goal.hear_levels-requires
hear_levels-requires c =
    let z = sym (fault_levels _ c.args.levels.now _ _ _ c.coordinates_fault-coordinates.ensures c.in_ok-block_fault.ensures) in
    (all_reached _ c.args.levels.now _ z, search rules, whole_levels _ c.args.levels.now _ z, one_by_one _ _ _ z, holds _ _ _ z)

pub returns : goal.returns
returns c =
    let z = sym (fault_levels _ c.args.levels.now _ _ _ c.coordinates_fault-coordinates.ensures c.in_ok-block_fault.ensures) in
    let answer = taken_law _ _ _ _ _ z c.hear_levels.ensures.0 c.hear_levels.ensures.1 in
    record { value = answer.0; told = answer.1 }
