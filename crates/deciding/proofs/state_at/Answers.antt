use Prim.Native.Nat.{ℕ}
use mathlib.Core.Path.{ap, ◌∙◌}
use lib.ListN.{get_or}
use mir.Facts.{to_z-of_z}
use Rattle.line.proofs.ByMode.{column-most}
use Rattle.deciding.proofs.RingLaws.{index_column}
use Rattle.deciding.proofs.state_at.Goals as goal

pub ring_index-requires : goal.ring_index-requires
ring_index-requires c = rw c.column_of.ensures (column-most c.args.mode)

pub returns : goal.returns
returns c =
    ap (λ (i : ℕ). get_or c.args.ring.now i 0)
    (rw (to_z-of_z c.ranges.re, to_z-of_z c.ranges.im) at c.ring_index.ensures.value ∙ index_column c.args.mode _ c.column_of.ensures c.args.re c.args.im)
