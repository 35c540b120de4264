use native.Mathlib.Omega.{arith}
use Rattle.store.proofs.Records.{link_first, link_later}
use Rattle.store.proofs.link_in.Goals as goal

pub returns-then-i-eq0 : goal.returns-then-i-eq0
returns-then-i-eq0 c = omega (arith, link_first c.args.i c.if-i-eq0.true)

pub returns : goal.returns
returns c = omega (arith, link_later c.args.i c.if-i-eq0.false)
