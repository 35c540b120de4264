use native.Mathlib.Omega.{arith}
use Rattle.summing.proofs.SumLaws.{counted_start, counted_step, counted_end}
use Rattle.summing.proofs.origins_in.Goals as goal

pub loop-k-init : goal.loop-k-init
loop-k-init c = counted_start c.args.r.now c.args.n

pub overflow_add-origins : goal.overflow_add-origins
overflow_add-origins c = omega (arith, c.loop-k.invariant.1, c.origin_at-origins.ensures.1)

pub loop-k-preserved : goal.loop-k-preserved
loop-k-preserved c =
    counted_step c.args.r.now _ _ c.loop-k.k _ c.loop-k-test.true c.loop-k.invariant c.origin_at-origins.ensures.0 c.origin_at-origins.ensures.1

pub returns : goal.returns
returns c = counted_end c.args.r.now _ _ c.loop-k.k c.loop-k-test.false c.loop-k.invariant
