use Rattle.octets.proofs.Numbers.{u16_past}
use mathlib.Core.Path.{sym}
use native.Mathlib.Omega.{arith}
use Rattle.octets.proofs.get16.Goals as goal

pub returns-else-at-s : goal.returns-else-at-s
returns-else-at-s c = (sym (u16_past c.args.s.now c.args.at c.if-at-s.false), omega arith)
