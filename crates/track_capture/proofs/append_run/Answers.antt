use mathlib.Core.Path.{refl, sym, ◌∙◌}
use native.Mathlib.Omega.{arith}
use lib.ListN.{length-take}
use Rattle.track_capture.proofs.EventLaws.{goes_none, run_goes, run_refused}
use Rattle.track_capture.proofs.append_run.Goals as goal

pub returns-then-n-lt2 : goal.returns-then-n-lt2
returns-then-n-lt2 c = (goes_none _ _ _ _ _ c.requires refl (omega arith), omega arith)

pub slice_bounds-append_points-end : goal.slice_bounds-append_points-end
slice_bounds-append_points-end c =
    simp length-take (omega (arith, c.run_at-run.ensures.long, c.run_at-run.ensures.few))

pub returns-then-is_ok : goal.returns-then-is_ok
returns-then-is_ok c =
    (run_goes _ _ _ _ _ _ c.run_at-run.ensures c.append_points.ensures.0 c.append_points.ensures.1 (sym c.is_ok.ensures.value ∙ c.if-is_ok.true), c.run_at-run.ensures.few)

pub returns : goal.returns
returns c =
    (run_refused _ _ _ _ _ _ c.run_at-run.ensures c.append_points.ensures.0 c.append_points.ensures.1 (sym c.is_ok.ensures.value ∙ c.if-is_ok.false), omega arith)
