use Rattle.std.proofs.Common.{◌≡◌}
use Rattle.std.specs.Slice.Iter.{chunks_exact_rest, chunks_exact_size}
use Rattle.verdicts.proofs.Writing.{Left}
use Rattle.verdicts.proofs.put_lines.Given as goal

abbrev pub invariant-loop-block : goal.invariant-loop-block
invariant-loop-block l = (chunks_exact_size l.block-iterator ≡ l.size) × Left l.size l.place l.input l.fn.out l.out l.at l.first (chunks_exact_rest l.block-iterator)
