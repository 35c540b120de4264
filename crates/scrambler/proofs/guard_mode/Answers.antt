use mathlib.Core.Path.{refl}
use borrow.Author.Tests.{le-leb, lt-leb}
use Rattle.scrambler.proofs.guard_mode.Goals as goal

pub returns-then-mode-le5 : goal.returns-then-mode-le5
returns-then-mode-le5 c = rw (le-leb _ 5 c.if-mode-le5.true) refl

pub returns-else-mode-le5 : goal.returns-else-mode-le5
returns-else-mode-le5 c = rw (lt-leb _ 5 c.if-mode-le5.false) refl
