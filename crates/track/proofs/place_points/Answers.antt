use native.Mathlib.Omega.{arith}
use mathlib.Core.Path.{◌∙◌}
use lib.ListN.{get_or}
use lib.IntN.{pos}
use mir.Facts.{to_z-of_z}
use mir.Syntax.{w16}
use borrow.Author.Rules.{rules}
use Rattle.track.proofs.Runs.{placing_reach, placing_step, placing_end, placing_none}
use Rattle.track.proofs.place_points.Goals as goal

pub returns-then-points-lt2 : goal.returns-then-points-lt2
returns-then-points-lt2 c = placing_none c.args.store.now c.args.points.now c.if-points-lt2.true

pub place_point-e-requires : goal.place_point-e-requires
place_point-e-requires c =
    placing_reach _ _ _ _ _ _ c.loop-point.invariant.1 _ _ c.in-Some.ensures.steps.1.0 (c.in-Some.ensures.steps.1.1 ∙ c.loop-point.invariant.0)

pub loop-point-preserved : goal.loop-point-preserved
loop-point-preserved c = (
  c.in-Some.ensures.steps.0 ∙ c.loop-point.invariant.0,
  placing_step _ _ _ _ _ _ c.loop-point.invariant.1 _ _ c.in-Some.ensures.steps.1.0 (c.in-Some.ensures.steps.1.1 ∙ c.loop-point.invariant.0) _ _
      (rw (to_z-of_z {w = w16} {z = get_or c.in-Some.point.now 0 (pos 0)} (search rules), to_z-of_z {w = w16} {z = get_or c.in-Some.point.now 1 (pos 0)} (search rules)) at c.place_point-e.ensures.0)
      c.place_point-e.ensures.1 (search rules),
)

pub returns : goal.returns
returns c =
    placing_end _ _ _ _ _ _ _ c.loop-point.invariant.1 c.if-points-lt2.false
    (let q = c.in-None.ensures.steps.1.0 in omega (arith, q, c.loop-point.invariant.0)) c.put32.ensures
