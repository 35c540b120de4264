use mathlib.Core.Path.{sym, ap, ◌∙◌, refl}
use Prim.Native.Nat.{ℕ}
use mathlib.Core.Path.{◌≡◌}
use native.Mathlib.Omega.{arith}
use Rattle.store.specs.Chain.{sum_over}
use Rattle.capture.specs.Capture.{size, event_of, told}
use Rattle.capture.proofs.SkipLaws.{size_not_0, skip_start, skip_none, skip_step, skip_all}
use Rattle.capture.proofs.skip_events.Goals as goal

pub loop-skipped-init : goal.loop-skipped-init
loop-skipped-init c = skip_start c.args.input.now c.args.n

pub returns-in_default : goal.returns-in_default
returns-in_default c =
    skip_none _ _ _ _ c.loop-skipped.invariant 0 (ap (sum_over size) (sym (ap told c.in_default.is) ∙ c.next_event.ensures)) refl

pub loop-skipped-preserved : goal.loop-skipped-preserved
loop-skipped-preserved c =
    skip_step _ _ _ _ c.loop-skipped.invariant _
    (omega (arith, c.size-used.ensures, ap (sum_over size) (sym (ap told c.in-Some.is) ∙ c.next_event.ensures))) c.loop-skipped-test.true
    (λ z. size_not_0 (event_of c.in-Some.event) (sym c.size-used.ensures ∙ z))

pub returns : goal.returns
returns c =
    ap (λ (k : ℕ). record { skipped = k; used = c.loop-skipped.used }) (let e : c.args.n ≡ c.loop-skipped.skipped = omega (arith, c.loop-skipped.invariant.within, c.loop-skipped-test.false) in e)
    ∙ skip_all _ _ _ _ c.loop-skipped.invariant c.loop-skipped-test.false
