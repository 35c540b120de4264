use mathlib.Core.Path.{◌≡◌}
use mathlib.Core.Bool.{◌&&◌}
use lib.ListN.{drop}
use Rattle.line.specs.Table.{every}
use Rattle.levels.specs.Levels.{is_finite}
use Rattle.levels.proofs.all_finite.Given as goal

abbrev pub invariant-loop-x : goal.invariant-loop-x
invariant-loop-x l = every is_finite l.levels ≡ l.all && every is_finite (drop l.x-index l.levels)
