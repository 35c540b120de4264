use native.Mathlib.Numerals.{add-one}
use Rattle.octets.specs.Number.{le16}
use Rattle.line.proofs.Sets.{sets_out}
use mathlib.Core.Path.{sym}
use Rattle.octets.proofs.put16.Goals as goal

pub returns-then-at-s : goal.returns-then-at-s
returns-then-at-s c = cc (add-one c.args.at)

pub returns-else-at-s : goal.returns-else-at-s
returns-else-at-s c = sym (sets_out (le16 c.args.v) c.args.s.now c.args.at c.if-at-s.false)
