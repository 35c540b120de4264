use Prim.Native.Nat.{◌≤◌, ◌<◌}
use mathlib.Core.Path.{◌≡◌}
use lib.ListN.{length, drop}
use Rattle.v41.specs.Register.{register}
use Rattle.v41.proofs.divide_bits.Given as goal

abbrev pub invariant-loop-b : goal.invariant-loop-b
invariant-loop-b l = (l.b-index ≤ length l.input) × (l.r < 65536) × (register l.r (drop l.b-index l.input) ≡ register l.start l.input)
