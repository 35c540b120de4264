use mathlib.Core.Path.{refl}
use Rattle.scrambler.specs.Scramble.{mix}
use Rattle.scrambler.specs.Register.{back, near_tap, counting, inverting, differs, count_after, push}
use Rattle.line.specs.Mode.{far_tap, guarded, capacity}
use Rattle.training.proofs.MiddleLaws.{table_rule}
use Rattle.training.proofs.middle_changes.Goals as goal

pub returns : goal.returns
unfolding guarded capacity far_tap back near_tap counting inverting differs count_after push mix
returns c = table_rule _ refl tt
