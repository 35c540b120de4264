use Prim.Native.Nat.{◌≤◌, ◌+◌}
use mathlib.Core.Path.{◌≡◌}
use lib.ListN.{length}
use Rattle.scrambler.specs.Bits.{bits}
use Rattle.scrambler.specs.Group.{marked}
use Rattle.listing.specs.Text.{glyphs}
use Rattle.listing.proofs.Writes.{Rest, bits_left}
use Rattle.listing.proofs.put_bits.Given as goal

abbrev pub invariant-loop-k : goal.invariant-loop-k
invariant-loop-k l = (l.k ≤ l.w) × (length l.out ≡ length l.initial.out) × Rest l.initial.out l.out l.at (l.at + l.k) (glyphs (marked l.unsettled (bits l.w l.v))) (bits_left l.w l.v l.unsettled l.k)
