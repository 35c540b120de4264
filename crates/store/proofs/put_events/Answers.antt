use Rattle.store.specs.Layout.{kind}
use mathlib.Core.Path.{◌≡◌, sym, ◌∙◌}
use native.Mathlib.Omega.{arith}
use Rattle.store.proofs.Readings.{held-points, held_lost, events_of_points, events_of_lost}
use Rattle.store.proofs.put_events.Goals as goal

pub put_points-requires : goal.put_points-requires
put_points-requires c =
    (c.get8-n.ensures.1, omega (arith, c.requires, c.get8-n.ensures.0, held-points c.args.r.now (sym c.get8.ensures.0 ∙ c.if-get8-eq1.true)))

pub returns-then-get8-eq1 : goal.returns-then-get8-eq1
returns-then-get8-eq1 c =
    let k = sym c.get8.ensures.0 ∙ c.if-get8-eq1.true in
    (events_of_points c.args.r.now c.args.out.now _ c.args.at c.get8-n.result k c.get8-n.ensures.0 c.put_points.ensures, omega (arith, c.get8-n.ensures.0, held-points c.args.r.now k))

pub put_event-requires : goal.put_event-requires
put_event-requires c = omega (arith, c.requires, held_lost c.args.r.now (λ e. c.if-get8-eq1.false (c.get8.ensures.0 ∙ e)))

pub returns : goal.returns
returns c =
    let k : kind c.args.r.now ≡ 1 → ⊥ = λ e. c.if-get8-eq1.false (c.get8.ensures.0 ∙ e) in
    (events_of_lost c.args.r.now c.args.out.now _ c.args.at c.get32.result k c.get32.ensures.0 c.get32.ensures.1 c.put_event.ensures, omega (arith, held_lost c.args.r.now k))
