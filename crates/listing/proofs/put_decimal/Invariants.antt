use Prim.Native.Nat.{◌≤◌, ◌-◌}
use mathlib.Core.Path.{◌≡◌}
use lib.ListN.{length}
use lib.Seq.{sets}
use Rattle.listing.specs.Text.{decimal}
use Rattle.listing.proofs.Digits.{spelt}
use Rattle.listing.proofs.put_decimal.Given as goal

abbrev pub invariant-loop-i : goal.invariant-loop-i
invariant-loop-i l = (l.at ≤ l.i) × (length l.out ≡ length l.initial.out) × (sets l.out l.at (spelt (l.i - l.at) l.rest) ≡ sets l.initial.out l.at (decimal l.n))
