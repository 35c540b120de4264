use mathlib.Core.Path.{refl}
use borrow.Author.Tests.{eq-eqb, ne_eqb}
use Rattle.scrambler.proofs.count_after.Goals as goal

pub returns-then-zeros-eq0 : goal.returns-then-zeros-eq0
returns-then-zeros-eq0 c = rw (eq-eqb _ 0 c.if-zeros-eq0.true) refl

pub returns : goal.returns
returns c = rw (ne_eqb _ 0 c.if-zeros-eq0.false) refl
