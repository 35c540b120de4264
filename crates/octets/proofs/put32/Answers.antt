use Prim.Native.Nat.{◌+◌, ◌%◌, ◌/◌}
use mathlib.Core.Path.{refl}
use Rattle.line.proofs.Sets.{sets_then}
use Rattle.octets.specs.Number.{le16, le32}
use Rattle.line.proofs.Sets.{sets_out}
use mathlib.Core.Path.{sym}
use Rattle.octets.proofs.put32.Goals as goal

pub returns-then-at-s : goal.returns-then-at-s
returns-then-at-s c =
    cc (sets_then (le16 (c.args.v % 65536)) (le16 (c.args.v / 65536)) c.args.s.now c.args.at (c.args.at + 2) refl)

pub returns-else-at-s : goal.returns-else-at-s
returns-else-at-s c = sym (sets_out (le32 c.args.v) c.args.s.now c.args.at c.if-at-s.false)
