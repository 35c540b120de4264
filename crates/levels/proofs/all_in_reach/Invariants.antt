use mathlib.Core.Path.{◌≡◌}
use mathlib.Core.Bool.{◌&&◌}
use lib.ListN.{drop}
use Rattle.line.specs.Table.{every}
use Rattle.levels.specs.Levels.{in_reach}
use Rattle.levels.proofs.all_in_reach.Given as goal

abbrev pub invariant-loop-x : goal.invariant-loop-x
invariant-loop-x l = every in_reach l.levels ≡ l.all && every in_reach (drop l.x-index l.levels)
