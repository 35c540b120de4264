use Rattle.line.proofs.TableLaws.{entry_small}
use lib.Dec.{lit<}
use Rattle.line.specs.Table.{entry}
use Rattle.coding.specs.Code.{changes4}
use mathlib.Core.Path.{refl}
use Rattle.coding.proofs.change4.Goals as goal

pub returns : goal.returns
unfolding entry changes4
returns c = record { value = refl; upper_bound = entry_small 4 changes4 (lit< tt) tt c.args.g }
