use Prim.Native.Nat.{◌*◌}
use mathlib.Core.Path.{◌≡◌}
use mathlib.Core.List.{map}
use lib.ListN.{length, drop}
use Rattle.std.specs.Slice.Iter.{chunks_rest, chunks_size}
use Rattle.levels.specs.Levels.{rounded}
use Rattle.bulk.specs.Block.{parts}
use Rattle.bulk.specs.Hearing.{Hearing}
use Rattle.readings.proofs.hear_levels.Given as goal

abbrev pub invariant-loop-part : goal.invariant-loop-part
invariant-loop-part l =
    Hearing l.initial.t (parts l.initial.line l.initial.plain l.initial.distance) (map rounded l.levels) 0 l.t (parts l.line l.plain l.distance) l.k × (length l.units ≡ length l.initial.units)
    × (chunks_rest l.part-iterator ≡ drop (2 * l.k) l.levels) × (chunks_size l.part-iterator ≡ l.size)
