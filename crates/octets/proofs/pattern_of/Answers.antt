use native.Mathlib.Omega.{arith}
use mathlib.Core.Path.{◌≡◌}
use mir.Facts.{to_z-of_z}
use Prim.Native.Nat.{◌<◌}
use Rattle.octets.specs.Number.{pattern}
use Rattle.octets.proofs.Numbers.{pattern_small}
use Rattle.octets.proofs.Signs.{pattern_is}
use Rattle.octets.proofs.pattern_of.Goals as goal

pub returns : goal.returns
returns c =
    let q = rw (to_z-of_z c.ranges.x) at c.cast_unsigned.ensures in
    let e : c.from.result ≡ pattern c.args.x = cc (q, pattern_is c.args.x) in
    let h : pattern c.args.x < 65536 = pattern_small c.args.x c.ranges.x in
    (e, omega arith)
