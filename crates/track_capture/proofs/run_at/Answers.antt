use mathlib.Core.Path.{◌≡◌, refl, ap, subst, ◌∙◌}
use Prim.Native.Nat.{ℕ}
use native.Mathlib.Omega.{arith}
use borrow.Author.Rules.{rules}
use mir.Facts.{to_z-of_z}
use mir.Syntax.{w16}
use Rattle.std.specs.Prelude.{Some}
use Rattle.track_capture.specs.Appending.{Runs}
use Rattle.track_capture.proofs.EventLaws.{run_start, run_step}
use Rattle.track_capture.proofs.run_at.Goals as goal

pub loop-k-init : goal.loop-k-init
loop-k-init c = run_start _ _ _ c.requires refl

pub overflow_add-at : goal.overflow_add-at
overflow_add-at c = omega (arith, c.loop-k.invariant.within)

pub bounds-numbers-k : goal.bounds-numbers-k
bounds-numbers-k c = omega (arith, c.loop-k.invariant.long)

pub bounds-numbers-k-in-loop-k : goal.bounds-numbers-k-in-loop-k
bounds-numbers-k-in-loop-k c = omega (arith, c.loop-k.invariant.long)

pub loop-k-preserved : goal.loop-k-preserved
loop-k-preserved c =
    run_step _ _ _ _ _ _ _ _ c.loop-k.invariant c.loop-k-test.true c.next_event.ensures (c.in-Some.is ∙ ap Some c.in-Point.is) (rw (to_z-of_z {w = w16} {z = c.in-Point.re} (search rules), to_z-of_z {w = w16} {z = c.in-Point.im} (search rules)))

pub returns : goal.returns
returns c =
    subst (λ (k : ℕ). Runs c.args.input.now c.args.at (record { numbers = c.loop-k.numbers; count = k }))
    (let e : c.loop-k.k ≡ 64 = omega (arith, c.loop-k.invariant.few, c.loop-k-test.false) in e) c.loop-k.invariant
