use mathlib.Core.Path.{refl}
use borrow.Author.Tests.{le-leb, lt-leb}
use Rattle.scrambler.proofs.count_limit.Goals as goal

pub returns-then-held-lt12 : goal.returns-then-held-lt12
returns-then-held-lt12 c = rw (lt-leb 12 _ c.if-held-lt12.true) refl

pub returns-else-held-lt12 : goal.returns-else-held-lt12
returns-else-held-lt12 c = rw (le-leb 12 _ c.if-held-lt12.false) refl
