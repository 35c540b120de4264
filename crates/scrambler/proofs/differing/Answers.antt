use mathlib.Core.Path.{refl}
use Rattle.scrambler.specs.Windows.{differ_at_once}
use Rattle.scrambler.proofs.differing.Goals as goal

pub returns : goal.returns
unfolding differ_at_once
returns c = refl
