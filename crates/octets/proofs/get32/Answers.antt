use Rattle.octets.proofs.Numbers.{u32_past}
use mathlib.Core.Path.{sym}
use native.Mathlib.Omega.{arith}
use Rattle.octets.proofs.get32.Goals as goal

pub returns-else-at-s : goal.returns-else-at-s
returns-else-at-s c = (sym (u32_past c.args.s.now c.args.at c.if-at-s.false), omega arith)
