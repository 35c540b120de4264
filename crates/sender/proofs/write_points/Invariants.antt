use Rattle.std.specs.Slice.Iter.{chunks_exact_rest, chunks_exact_size}
use Rattle.std.specs.Iterator.Adapters.{enumerate_source, enumerate_count}
use mathlib.Core.Path.{◌≡◌}
use Rattle.sender.proofs.SendLaws.{Left, carrying}
use Rattle.sender.proofs.write_points.Given as goal

abbrev pub invariant-loop-k : goal.invariant-loop-k
invariant-loop-k l =
    (chunks_exact_size (enumerate_source l.k-iterator) ≡ l.w)
    × Left l.mode l.w l.input l.s l.initial.out (carrying l.s l.reference l.bits) l.out (enumerate_count l.k-iterator) (chunks_exact_rest (enumerate_source l.k-iterator))
