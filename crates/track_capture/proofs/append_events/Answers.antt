use mathlib.Core.Path.{refl}
use native.Mathlib.Omega.{arith}
use borrow.Author.Rules.{rules}
use Rattle.track_capture.proofs.EventLaws.{goes_none, goes_then, goes_end_by, goes_on_by}
use Rattle.track_capture.proofs.append_events.Goals as goal

pub loop-step-init : goal.loop-step-init
loop-step-init c = (refl, goes_none _ _ _ 0 0 (omega arith) refl refl)

pub append_run-n-requires : goal.append_run-n-requires
append_run-n-requires c = c.loop-step.invariant.1.within

pub overflow_mul-at : goal.overflow_mul-at
overflow_mul-at c = omega (arith, c.append_run-n.ensures.1)

pub overflow_add-at : goal.overflow_add-at
overflow_add-at c = omega (arith, c.append_run-n.ensures.0.within)

pub overflow_add-taken : goal.overflow_add-taken
overflow_add-taken c =
    let g = goes_then _ _ _ _ _ _ _ _ _ c.loop-step.invariant.1 c.append_run-n.ensures.0 in
    omega (arith, g.few, g.within)

pub returns-then-size-eq0 : goal.returns-then-size-eq0
returns-then-size-eq0 c =
    let g = goes_then _ _ _ _ _ _ _ _ _ c.loop-step.invariant.1 c.append_run-n.ensures.0 in
    goes_end_by _ _ _ _ _ _ _ g c.append_next-step.ensures _ _ c.unwrap_or-size.ensures c.err.ensures.value c.if-size-eq0.true

pub overflow_add-at-in-loop-step : goal.overflow_add-at-in-loop-step
overflow_add-at-in-loop-step c = let g = goes_on_by _ _ _ _ _ _ _ _ c.unwrap_or-size.ensures (goes_then _ _ _ _ _ _ _ _ _ c.loop-step.invariant.1 c.append_run-n.ensures.0) c.append_next-step.ensures c.if-size-eq0.false in omega (arith, g.1.within)

pub overflow_add-taken-in-loop-step : goal.overflow_add-taken-in-loop-step
overflow_add-taken-in-loop-step c = let g = goes_on_by _ _ _ _ _ _ _ _ c.unwrap_or-size.ensures (goes_then _ _ _ _ _ _ _ _ _ c.loop-step.invariant.1 c.append_run-n.ensures.0) c.append_next-step.ensures c.if-size-eq0.false in omega (arith, g.1.few, g.1.within)

pub loop-step-smaller : goal.loop-step-smaller
loop-step-smaller c =
    let g = goes_on_by _ _ _ _ _ _ _ _ c.unwrap_or-size.ensures (goes_then _ _ _ _ _ _ _ _ _ c.loop-step.invariant.1 c.append_run-n.ensures.0) c.append_next-step.ensures c.if-size-eq0.false in
    omega (arith, g.0, g.1.within, c.append_run-n.ensures.0.few)

pub loop-step-preserved : goal.loop-step-preserved
loop-step-preserved c = (search rules, (goes_on_by _ _ _ _ _ _ _ _ c.unwrap_or-size.ensures (goes_then _ _ _ _ _ _ _ _ _ c.loop-step.invariant.1 c.append_run-n.ensures.0) c.append_next-step.ensures c.if-size-eq0.false).1)
