use mathlib.Core.Path.{sym, ◌∙◌}
use native.Mathlib.Omega.{arith}
use Rattle.line.proofs.ByMode.{capacity_range}
use Rattle.scrambler.proofs.RegisterLaws.{guarded_limit, ok_law, plain_ok_law, not_ok_law}
use Rattle.scrambler.proofs.register_ok.Goals as goal

pub overflow_shr-result : goal.overflow_shr-result
overflow_shr-result c = omega (arith, (capacity_range c.args.mode).1)

pub returns-then-has_guard : goal.returns-then-has_guard
returns-then-has_guard c =
    ok_law c.args.mode c.args.h _ _ c.capacity_of.ensures c.if-held-capacity_of.true (guarded_limit c.args.mode _ _ (sym c.has_guard.ensures ∙ c.if-has_guard.true) c.count_limit.ensures)

pub overflow_shr-result-then-held-capacity_of : goal.overflow_shr-result-then-held-capacity_of
overflow_shr-result-then-held-capacity_of c = omega (arith, (capacity_range c.args.mode).1)

pub returns-else-has_guard : goal.returns-else-has_guard
returns-else-has_guard c =
    plain_ok_law c.args.mode c.args.h _ c.capacity_of.ensures c.if-held-capacity_of.true (sym c.has_guard.ensures ∙ c.if-has_guard.false)

pub returns-else-held-capacity_of : goal.returns-else-held-capacity_of
returns-else-held-capacity_of c = search not_ok_law
