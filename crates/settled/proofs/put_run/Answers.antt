use native.Mathlib.Omega.{arith}
use Rattle.settled.proofs.PutLaws.{point_most, point_fits, put_next}
use Rattle.settled.proofs.put_run.Goals as goal

pub overflow_sub-e : goal.overflow_sub-e
overflow_sub-e c = omega (arith, point_most _ _ _ _ _ _ c.loop-p.invariant c.loop-p-test.true c.requires.0)

pub overflow_add-e : goal.overflow_add-e
overflow_add-e c = omega (arith, point_fits _ _ _ _ _ _ c.loop-p.invariant c.loop-p-test.true)

pub slice_bounds-put_bits-end : goal.slice_bounds-put_bits-end
slice_bounds-put_bits-end c = omega (arith, point_fits _ _ _ _ _ _ c.loop-p.invariant c.loop-p-test.true)

pub loop-p-preserved : goal.loop-p-preserved
loop-p-preserved c = put_next _ _ _ _ _ _ c.loop-p.invariant c.loop-p-test.true _ _ (let e = c.from.ensures in cc) (let e = c.put_bits.ensures in let f = c.from-in-loop-p.ensures in cc)
