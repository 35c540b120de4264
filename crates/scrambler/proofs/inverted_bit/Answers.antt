use mathlib.Core.Path.{refl}
use borrow.Author.Tests.{lt-ltb, le-ltb}
use native.Mathlib.Omega.{arith}
use Rattle.scrambler.proofs.inverted_bit.Goals as goal

pub returns-then-d-place : goal.returns-then-d-place
returns-then-d-place c = record { value = rw (lt-ltb _ _ c.if-d-place.true) refl; upper_bound = omega arith }

pub returns-else-d-place : goal.returns-else-d-place
returns-else-d-place c = record { value = rw (le-ltb _ _ c.if-d-place.false) refl; upper_bound = omega arith }
