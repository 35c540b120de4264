use mathlib.Core.Path.{sym, ◌∙◌}
use native.Mathlib.Omega.{arith}
use Rattle.store.proofs.Readings.{held-points, held_lost}
use Rattle.store.proofs.events_in.Goals as goal

pub returns-then-get8-eq1 : goal.returns-then-get8-eq1
returns-then-get8-eq1 c = (c.get8-then-get8-eq1.ensures.0 ∙ held-points c.args.r.now (sym c.get8.ensures.0 ∙ c.if-get8-eq1.true), c.get8-then-get8-eq1.ensures.1)

pub returns : goal.returns
returns c = (held_lost c.args.r.now (λ e. c.if-get8-eq1.false (c.get8.ensures.0 ∙ e)), omega arith)
