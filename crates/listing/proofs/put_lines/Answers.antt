use mathlib.Core.Path.{refl}
use native.Mathlib.Omega.{arith}
use native.Mathlib.Nat.{add-zero}
use borrow.Author.Rules.{rules}
use Rattle.listing.proofs.Writes.{rest_then, rest_none}
use Rattle.listing.proofs.PointTexts.{lines_again, lines_end}
use Rattle.listing.proofs.put_lines.Goals as goal

pub loop-k-init : goal.loop-k-init
loop-k-init c = (refl, omega arith, record { written = simp add-zero; behind = simp add-zero })

pub put_point-p-requires : goal.put_point-p-requires
put_point-p-requires c = omega arith

pub loop-k-preserved : goal.loop-k-preserved
loop-k-preserved c = (
  search rules,
  omega (arith, c.put_point-p.ensures.1),
  rest_then c.loop-k.invariant.2 (lines_again c.args.w c.args.place c.args.line.now c.args.plain.now c.loop-k.k c.loop-k-test.true c.requires.3) c.put_point-p.ensures.0,
)

pub returns : goal.returns
returns c =
    rest_none c.loop-k.invariant.2 (lines_end c.args.w c.args.place c.args.line.now c.args.plain.now c.loop-k.k c.loop-k-test.false)
