use Rattle.store.proofs.PointRuns.{points-step, points_end}
use native.Mathlib.Omega.{arith}
use mathlib.Core.Path.{refl}
use Rattle.store.proofs.points_ok.Goals as goal

pub loop-k-init : goal.loop-k-init
loop-k-init c = (omega arith, refl)

pub loop-k-preserved : goal.loop-k-preserved
loop-k-preserved c = (omega arith, points-step c.args.r.now c.loop-k.k _ c.loop-k.fine _ c.loop-k-test.true c.point_ok-fine.ensures c.loop-k.invariant.1)

pub returns : goal.returns
returns c = points_end c.args.r.now c.args.n c.loop-k.k c.loop-k.fine _ (omega arith) c.loop-k-test.false c.loop-k.invariant.1 c.zero_from.ensures
