use mathlib.Core.Path.{refl}
use borrow.Author.Rules.{rules}
use Rattle.track_capture.proofs.CaptureLaws.{points-start, points-step, points_end}
use Rattle.track_capture.proofs.put_points.Goals as goal

pub loop-k-init : goal.loop-k-init
loop-k-init c =
    (refl, points-start c.args.r.now c.args.n c.args.out.now c.args.at)

pub loop-k-preserved : goal.loop-k-preserved
loop-k-preserved c = (
  search rules,
  points-step c.args.r.now c.args.n c.args.out.now c.loop-k.out _ _ c.args.at c.loop-k.k _ _ c.loop-k-test.true c.get16.ensures.0 c.get16.ensures.1 c.get16-in-loop-k.ensures.0 c.get16-in-loop-k.ensures.1 c.put16.ensures c.put16-in-loop-k.ensures c.loop-k.invariant.1,
)

pub returns : goal.returns
returns c =
    points_end c.args.r.now c.args.n c.args.out.now c.loop-k.out c.args.at c.loop-k.k c.loop-k-test.false c.loop-k.invariant.1
