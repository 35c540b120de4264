use Prim.Native.Nat.{◌<◌}
use mathlib.Core.Path.{◌≡◌}
use Rattle.std.specs.Slice.Iter.{chunks_exact_rest, chunks_exact_size}
use Rattle.v41.specs.Register.{register}
use Rattle.v41.proofs.Loops.{Eights}
use Rattle.v41.proofs.divide.Given as goal

abbrev pub invariant-loop-eight : goal.invariant-loop-eight
invariant-loop-eight l = (l.r < 65536) × (chunks_exact_size l.eight-iterator ≡ 8) × Eights l.input (chunks_exact_rest l.eight-iterator) × (register l.r (chunks_exact_rest l.eight-iterator) ≡ register 0 l.input)
