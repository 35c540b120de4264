use Prim.Native.Nat.{◌-◌, ◌/◌, ◌^◌}
use mathlib.Core.Path.{◌≡◌}
use lib.ListN.{length, drop}
use Rattle.scrambler.specs.Bits.{bits}
use Rattle.bits.proofs.put_bits.Given as goal

abbrev pub invariant-loop-k : goal.invariant-loop-k
invariant-loop-k l =
    record {
      written : drop l.k l.out ≡ bits (length l.initial.out - l.k) l.v;
      left : l.rest ≡ l.v / 2 ^ (length l.initial.out - l.k);
    }
