use Rattle.store.specs.Layout.{record_ok}
use borrow.Author.Tests.{eq-eqb, ne_eqb, le-leb, lt-leb}
use lib.ListN.{get_or}
use native.Mathlib.Omega.{arith}
use mathlib.Core.Path.{sym, ◌∙◌}
use Rattle.store.proofs.record_ok.Goals as goal

pub returns-then-n-le7 : goal.returns-then-n-le7
unfolding record_ok
returns-then-n-le7 c = rw (eq-eqb (get_or c.args.r.now 2 0) 1 (sym c.get8.ensures.0 ∙ c.if-get8-eq1.true), le-leb (get_or c.args.r.now 3 0) 7 (omega (arith, c.if-n-le7.true))) (cc)

pub returns-then-get8-eq1 : goal.returns-then-get8-eq1
unfolding record_ok
returns-then-get8-eq1 c = rw (eq-eqb (get_or c.args.r.now 2 0) 1 (sym c.get8.ensures.0 ∙ c.if-get8-eq1.true), lt-leb (get_or c.args.r.now 3 0) 7 (omega (arith, c.if-n-le7.false)))

pub returns : goal.returns
unfolding record_ok
returns c = rw (ne_eqb (get_or c.args.r.now 2 0) 1 (λ e. c.if-get8-eq1.false (c.get8.ensures.0 ∙ e))) (cc)
