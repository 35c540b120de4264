use native.Mathlib.Omega.{arith}
use Rattle.coding.proofs.CodeLaws.{xors}
use borrow.Author.Rules.{rules}
use Rattle.coding.proofs.ring_place.Goals as goal

pub returns : goal.returns
returns c = let x = xors c.args.y (search rules) in record { value = x.0; upper_bound = omega (arith, x.0, x.2) }
