use Rattle.std.proofs.Common.{◌≡◌}
use Rattle.std.specs.Slice.Iter.{chunks_exact_rest, chunks_exact_size}
use Rattle.track.proofs.Runs.{Placing}
use Rattle.track.proofs.place_points.Given as goal

abbrev pub invariant-loop-point : goal.invariant-loop-point
invariant-loop-point l = (chunks_exact_size l.point-iterator ≡ 2) × Placing l.initial.store l.store l.e l.total l.points (chunks_exact_rest l.point-iterator)
