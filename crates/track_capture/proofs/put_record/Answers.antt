use mathlib.Core.Path.{sym, ◌∙◌}
use native.Mathlib.Omega.{arith}
use Rattle.track_capture.proofs.CaptureLaws.{wrote-points, wrote_lost}
use Rattle.track_capture.proofs.put_record.Goals as goal

pub returns-then-get8-eq1 : goal.returns-then-get8-eq1
returns-then-get8-eq1 c = (
  wrote-points _ _ _ _ _ (sym c.get8.ensures.0 ∙ c.if-get8-eq1.true) c.get8-n.ensures.0 c.put_points.ensures,
  omega (arith, c.get8-n.ensures.1),
)

pub returns : goal.returns
returns c = (
  wrote_lost _ _ _ _ _ _ (λ e. c.if-get8-eq1.false (c.get8.ensures.0 ∙ e)) c.get32.ensures.0 c.put32.ensures c.put32-2.ensures,
  omega arith,
)
