use mathlib.Core.Path.{◌≡◌}
use mathlib.Core.Bool.{◌&&◌}
use lib.ListN.{drop}
use Rattle.line.specs.Point.{coordinates_in}
use Rattle.line.proofs.all_in_range.Given as goal

abbrev pub invariant-loop-x : goal.invariant-loop-x
invariant-loop-x l = coordinates_in l.numbers ≡ l.all && coordinates_in (drop l.x-index l.numbers)
