use native.Mathlib.Omega.{arith}
use mir.Facts.{to_z-of_z}
use Rattle.deciding.proofs.RingLaws.{index_law}
use Rattle.deciding.proofs.ring_index.Goals as goal

pub returns : goal.returns
returns c =
    record {
      value = index_law c.args.c c.args.re c.args.im _ _ _ _ _ _ _ _ _ _ _ _ (rw (to_z-of_z c.ranges.re) at c.size-x.ensures.value) (rw (to_z-of_z c.ranges.im) at c.size-y.ensures.value)
          (rw (to_z-of_z c.ranges.re) at c.below.ensures) (rw (to_z-of_z c.ranges.im) at c.below-2.ensures) c.bit-down.ensures.value
          (rw (to_z-of_z c.ranges.im) at c.below-3.ensures) (rw (to_z-of_z c.ranges.re) at c.below-4.ensures) c.bit-left.ensures.value
          c.far.ensures c.bit.ensures.value c.far-2.ensures c.bit-2.ensures.value;
      upper_bound = omega (arith, c.bit-down.ensures.upper_bound, c.bit-left.ensures.upper_bound, c.bit.ensures.upper_bound, c.bit-2.ensures.upper_bound);
    }
