use mathlib.Core.Bool.{not}
use mathlib.Core.Path.{◌≡◌, refl, ap, ◌∙◌}
use lib.ListN.{length}
use native.Mathlib.Omega.{arith}
use borrow.Author.Rules.{rules}
use Rattle.settled.specs.Run.{following}
use Rattle.settled.proofs.ByteLaws.{counted_end, ends_here, goes_on}
use Rattle.settled.proofs.run_end.Goals as goal

pub returns-then-not-all_settled : goal.returns-then-not-all_settled
returns-then-not-all_settled c = (search rules, ends_here _ _ _ c.loop-k.k _ c.requires.1 (search rules) _ c.loop-k.invariant.1 c.all_settled.ensures (ap not c.if-not-all_settled.true))

pub loop-k-preserved : goal.loop-k-preserved
loop-k-preserved c = (search rules, goes_on _ _ _ c.loop-k.k _ c.requires.1 (search rules) _ c.loop-k.invariant.1 c.all_settled.ensures (ap not c.if-not-all_settled.false))

pub returns : goal.returns
returns c = (search rules, (let e : length c.args.line.now ≡ c.loop-k.k = omega arith in e) ∙ counted_end following _ _ _ c.loop-k.k _ c.loop-k.invariant.1 (search rules) refl)
