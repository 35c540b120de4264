use Prim.Native.Nat.{◌+◌}
use mathlib.Core.Path.{refl, sym, ◌∙◌}
use native.Mathlib.Nat.{add-zero}
use native.Mathlib.Omega.{arith}
use lib.ListN.{get_or, length-set}
use Rattle.line.proofs.Sets.{sets_out}
use Rattle.octets.proofs.Loops.{copy_step, copy_all}
use Rattle.octets.proofs.put_all.Goals as goal

pub loop-k-init : goal.loop-k-init
loop-k-init c = (omega arith, c.min-n.ensures, refl, simp add-zero)

pub loop-k-preserved : goal.loop-k-preserved
loop-k-preserved c =
    (omega (arith, c.loop-k-test.true), c.loop-k.invariant.1, length-set c.loop-k.s (c.args.at + c.loop-k.k) (get_or c.args.r.now c.loop-k.k 0) ∙ c.loop-k.invariant.2, copy_step c.args.s.now c.loop-k.s c.args.r.now c.args.at c.loop-k.k c.loop-k.invariant.3 (omega (arith, c.loop-k-test.true, c.loop-k.invariant.1)))

pub returns-after-loop-k : goal.returns-after-loop-k
returns-after-loop-k c =
    copy_all c.args.s.now c.loop-k.s c.args.r.now c.args.at c.loop-k.k _ c.loop-k.invariant.3 c.loop-k.invariant.2 c.loop-k.invariant.1 c.loop-k-test.false

pub returns-else-at-s : goal.returns-else-at-s
returns-else-at-s c = sym (sets_out c.args.r.now c.args.s.now c.args.at c.if-at-s.false)
