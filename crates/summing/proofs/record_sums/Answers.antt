use mathlib.Core.Path.{sym, ◌∙◌}
use Rattle.summing.proofs.SumLaws.{points_sums, lost_sums}
use Rattle.summing.proofs.record_sums.Goals as goal

pub returns-then-get8-eq1 : goal.returns-then-get8-eq1
returns-then-get8-eq1 c =
    points_sums c.args.r.now _ _ (sym c.get8.ensures.0 ∙ c.if-get8-eq1.true) c.get8-n.ensures.0 c.get8-n.ensures.1 c.origins_in-origins.ensures

pub returns : goal.returns
returns c =
    lost_sums c.args.r.now _ (λ e. c.if-get8-eq1.false (c.get8.ensures.0 ∙ e)) c.get32-n.ensures.0 c.get32-n.ensures.1
