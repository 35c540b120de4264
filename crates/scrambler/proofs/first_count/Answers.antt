use mathlib.Core.Path.{refl}
use borrow.Author.Tests.{lt-ltb, le-ltb}
use native.Mathlib.Omega.{arith}
use Rattle.scrambler.proofs.first_count.Goals as goal

pub returns-then-unsettled-gt0 : goal.returns-then-unsettled-gt0
returns-then-unsettled-gt0 c = record { value = rw (lt-ltb _ _ c.if-unsettled-gt0.true) refl; upper_bound = omega arith }

pub returns-then-count-le33 : goal.returns-then-count-le33
returns-then-count-le33 c = record { value = rw (le-ltb _ _ c.if-unsettled-gt0.false) (omega arith); upper_bound = omega arith }

pub returns-else-count-le33 : goal.returns-else-count-le33
returns-else-count-le33 c = record { value = rw (le-ltb _ _ c.if-unsettled-gt0.false) (omega arith); upper_bound = omega arith }
