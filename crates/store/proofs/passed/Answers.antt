use Rattle.store.specs.Layout.{span_of}
use native.Mathlib.Omega.{arith}
use mathlib.Core.Path.{refl, ap}
use Rattle.store.proofs.passed.Goals as goal

pub returns : goal.returns
returns c = record { ends = refl; fine = cc; sum = omega (arith, c.span.ensures, ap span_of c.record_at-r.ensures.0); room = omega (arith, c.span.ensures); last = refl; most = omega (arith, c.max.ensures) }
