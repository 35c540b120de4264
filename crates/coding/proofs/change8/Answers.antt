use Rattle.line.proofs.TableLaws.{entry_small}
use lib.Dec.{lit<}
use Rattle.line.specs.Table.{entry}
use Rattle.coding.specs.Code.{changes8}
use mathlib.Core.Path.{refl}
use Rattle.coding.proofs.change8.Goals as goal

pub returns : goal.returns
unfolding entry changes8
returns c = record { value = refl; upper_bound = entry_small 8 changes8 (lit< tt) tt c.args.g }
