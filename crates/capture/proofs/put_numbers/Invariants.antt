use Prim.Native.Nat.{◌*◌}
use mathlib.Core.Path.{◌≡◌}
use lib.ListN.{length, drop}
use lib.Seq.{sets}
use Rattle.capture.specs.Capture.{number_bytes}
use Rattle.capture.proofs.put_numbers.Given as goal

abbrev pub invariant-loop-number : goal.invariant-loop-number
invariant-loop-number l =
    (l.at ≡ 2 * l.number-index) × (length l.out ≡ length l.initial.out) × (sets l.out l.at (number_bytes (drop l.number-index l.numbers)) ≡ sets l.initial.out 0 (number_bytes l.numbers))
