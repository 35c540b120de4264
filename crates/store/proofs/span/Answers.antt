use lib.ListN.{get_or}
use Rattle.store.specs.Layout.{span_of}
use borrow.Author.Tests.{eq-eqb, ne_eqb}
use mathlib.Core.Path.{sym, ◌∙◌}
use borrow.Author.Rules.{rules}
use Rattle.store.proofs.span.Goals as goal

pub returns-then-get8-eq1 : goal.returns-then-get8-eq1
unfolding span_of
returns-then-get8-eq1 c = rw (eq-eqb (get_or c.args.r.now 2 0) 1 (sym c.get8.ensures.0 ∙ c.if-get8-eq1.true)) (search rules)

pub returns : goal.returns
unfolding span_of
returns c = rw (ne_eqb (get_or c.args.r.now 2 0) 1 (λ e. c.if-get8-eq1.false (c.get8.ensures.0 ∙ e))) (search rules)
