use native.Mathlib.Omega.{arith}
use Rattle.summing.proofs.SumLaws.{at_origin, off_origin}
use Rattle.summing.proofs.origin_at.Goals as goal

pub returns-then-get32-eq0 : goal.returns-then-get32-eq0
returns-then-get32-eq0 c = (at_origin c.args.r.now c.args.from _ c.get32.ensures.0 c.if-get32-eq0.true, omega arith)

pub returns : goal.returns
returns c = (off_origin c.args.r.now c.args.from _ c.get32.ensures.0 c.if-get32-eq0.false, omega arith)
