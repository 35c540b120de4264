use mathlib.Core.Path.{ap, ◌∙◌}
use mathlib.Core.List.{List}
use Prim.Native.Nat.{ℕ, ◌+◌, ◌*◌, ◌-◌}
use native.Mathlib.Omega.{arith}
use borrow.Rule.Slice.PartMut.{put_mid}
use lib.ListN.{set, length-set}
use mir.Facts.{to_z-of_z}
use Rattle.line.specs.Point.{at}
use Rattle.store.specs.Layout.{point_bytes}
use Rattle.track.proofs.Parts.{part_written}
use Rattle.track.proofs.grow.Goals as goal

pub returns : goal.returns
returns c =
    let s : List ℕ = set c.args.store.now (32 * c.args.i + 3) (c.args.k + 1) in
    let from : ℕ = 32 * c.args.i + (4 + 4 * c.args.k) in
    ap (put_mid from (from + 4 - from) s) (c.copy_from_slice.ensures.after ∙ (rw (to_z-of_z c.ranges.re, to_z-of_z c.ranges.im) at c.point_bytes.ensures))
    ∙ part_written from (from + 4) s (point_bytes (at c.args.re c.args.im)) (omega arith) (simp length-set (omega (arith, c.requires.0, c.requires.1))) (omega arith)
