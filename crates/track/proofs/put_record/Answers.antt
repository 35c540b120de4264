use mathlib.Core.Path.{sym, ap, ◌∙◌}
use Prim.Native.Nat.{ℕ, ◌+◌, ◌*◌, ◌-◌}
use native.Mathlib.Nat.{add-zero}
use native.Mathlib.Omega.{arith}
use borrow.Rule.Slice.PartMut.{put_mid}
use lib.Seq.{sets}
use Rattle.track.proofs.Parts.{part_written}
use Rattle.track.proofs.put_record.Goals as goal

pub returns : goal.returns
returns c =
    ap (put_mid (32 * c.args.i) (32 * c.args.i + 32 - 32 * c.args.i) c.args.store.now) c.copy_from_slice.ensures.after
    ∙ part_written (32 * c.args.i) (32 * c.args.i + 32) c.args.store.now c.args.r (omega arith) (omega (arith, c.requires.0)) (omega (arith, c.requires.1))
    ∙ ap (λ (n : ℕ). sets c.args.store.now n c.args.r) (sym (add-zero (32 * c.args.i)))
