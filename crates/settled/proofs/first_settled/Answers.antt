use mathlib.Core.Path.{◌≡◌, refl, ◌∙◌}
use lib.ListN.{length}
use native.Mathlib.Omega.{arith}
use borrow.Author.Rules.{rules}
use Rattle.settled.specs.Run.{before}
use Rattle.settled.proofs.ByteLaws.{counted_end, begins_here, begins_later}
use Rattle.settled.proofs.first_settled.Goals as goal

pub returns-then-has_settled : goal.returns-then-has_settled
returns-then-has_settled c = (search rules, begins_here _ _ _ c.loop-k.k _ c.requires (search rules) _ c.loop-k.invariant.1 c.has_settled.ensures c.if-has_settled.true)

pub loop-k-preserved : goal.loop-k-preserved
loop-k-preserved c = (search rules, begins_later _ _ _ c.loop-k.k _ c.requires (search rules) _ c.loop-k.invariant.1 c.has_settled.ensures c.if-has_settled.false)

pub returns : goal.returns
returns c = (search rules, (let e : length c.args.line.now ≡ c.loop-k.k = omega arith in e) ∙ counted_end before _ _ _ c.loop-k.k _ c.loop-k.invariant.1 (search rules) refl)
