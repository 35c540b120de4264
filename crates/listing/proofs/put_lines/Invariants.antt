use Prim.Native.Nat.{◌+◌, ◌*◌, ◌≤◌}
use mathlib.Core.Path.{◌≡◌}
use lib.ListN.{length}
use Rattle.listing.specs.Wrote.{byte_lines}
use Rattle.listing.proofs.Writes.{Rest}
use Rattle.listing.proofs.PointTexts.{lines_left}
use Rattle.listing.proofs.put_lines.Given as goal

abbrev pub invariant-loop-k : goal.invariant-loop-k
invariant-loop-k l = (length l.out ≡ length l.initial.out) × (l.p ≤ l.at + 30 * l.k) × Rest l.initial.out l.out l.at l.p (byte_lines l.w l.place l.line l.plain) (lines_left l.w l.place l.line l.plain l.k)
