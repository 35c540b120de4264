use mathlib.Core.Path.{sym, ◌∙◌}
use Rattle.std.proofs.lemmas.Result.{err_from_is_err_and}
use Rattle.bulk.specs.Block.{in_units}
use Rattle.bulk.proofs.BlockLaws.{one_by_one, fault_law, refused_law, taken_law, holds}
use Rattle.bulk.proofs.receive_points.Goals as goal

pub returns-in_err-block_fault : goal.returns-in_err-block_fault
returns-in_err-block_fault c =
    let p = err_from_is_err_and c.from_residual.result c.from_residual.ensures.1 in
    let answer = refused_law _ (in_units c.args.points.now) _ _ (rw c.by_fields-t.ensures at c.in_err-block_fault.ensures ∙ fault_law _ (in_units c.args.points.now) _) in
    record { value = rw (p.1, p.2) answer.0; told = rw (p.1, p.2) answer.1 }

pub hear_all-requires : goal.hear_all-requires
hear_all-requires c =
    let z = sym (c.in_ok-block_fault.ensures ∙ fault_law _ (in_units c.args.points.now) _) in
    (one_by_one _ _ _ z, holds _ _ _ z)

pub returns : goal.returns
returns c =
    let z = sym (rw c.by_fields-t.ensures at c.in_ok-block_fault.ensures ∙ fault_law _ (in_units c.args.points.now) _) in
    let answer = taken_law _ _ _ _ _ z (rw c.by_fields-t.ensures at c.hear_all.ensures.0) (rw c.by_fields-t.ensures at c.hear_all.ensures.1) in
    record { value = answer.0; told = answer.1 }
