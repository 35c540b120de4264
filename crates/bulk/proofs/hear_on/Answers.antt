use mathlib.Core.Path.{◌∙◌}
use Rattle.bulk.proofs.BlockLaws.{run_test, at_reference}
use borrow.Author.Rules.{rules}
use Rattle.bulk.proofs.hear_on.Goals as goal

pub hear_run-requires : goal.hear_run-requires
hear_run-requires c =
    let f = run_test _ _ _ c.if-s-capacity_of.true in
    record { ready = c.requires; full = λ g. f (c.has_guard.ensures ∙ g) ∙ c.capacity_of.ensures; begun = at_reference c.args.s _ (search rules) }
