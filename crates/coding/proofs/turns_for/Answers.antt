use native.Mathlib.Omega.{arith}
use Rattle.coding.proofs.CodeLaws.{xors}
use borrow.Author.Rules.{rules}
use Rattle.coding.proofs.turns_for.Goals as goal

pub returns : goal.returns
returns c = let x = xors c.args.q (search rules) in record { value = x.1; upper_bound = omega (arith, x.1, x.3) }
