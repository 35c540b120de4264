use native.Mathlib.Omega.{arith}
use Rattle.store.proofs.Going.{going_start, going_step, going_past, going_long, going_end}
use Rattle.store.proofs.follow.Goals as goal

pub next_of-i-requires : goal.next_of-i-requires
next_of-i-requires c = omega arith

pub loop-i-init : goal.loop-i-init
loop-i-init c = going_start _ _ c.requires c.next_of-i.ensures.0

pub returns-then-n-i : goal.returns-then-n-i
returns-then-n-i c = going_past _ _ _ _ _ c.loop-i.invariant c.loop-i-test.true c.if-n-i.true

pub returns-then-n-k : goal.returns-then-n-k
returns-then-n-k c = going_long _ _ _ _ _ c.loop-i.invariant c.loop-i-test.true c.if-n-k.true

pub passed-t-requires : goal.passed-t-requires
passed-t-requires c =
    omega (arith, c.loop-i.invariant.size.whole, c.loop-i.invariant.size.most, c.loop-i.invariant.counted, c.loop-i.invariant.room, c.if-n-i.false, c.if-n-k.false)

pub overflow_add-k : goal.overflow_add-k
overflow_add-k c = omega arith

pub next_of-i-requires-in-loop-i : goal.next_of-i-requires-in-loop-i
next_of-i-requires-in-loop-i c = omega (arith, c.loop-i.invariant.size.whole, c.loop-i.invariant.counted, c.if-n-i.false)

pub loop-i-smaller : goal.loop-i-smaller
loop-i-smaller c = omega arith

pub loop-i-preserved : goal.loop-i-preserved
loop-i-preserved c =
    going_step _ _ _ _ _ _ _ c.loop-i.invariant c.loop-i-test.true
    c.if-n-i.false c.if-n-k.false c.passed-t.ensures c.next_of-i-in-loop-i.ensures.0

pub returns : goal.returns
returns c = going_end _ _ _ _ _ c.loop-i.invariant c.loop-i-test.false
