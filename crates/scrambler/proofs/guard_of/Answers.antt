use mathlib.Core.Path.{sym, ◌∙◌}
use native.Mathlib.Omega.{arith}
use Rattle.scrambler.proofs.GroupLaws.{plain_guard}
use Rattle.scrambler.proofs.guard_of.Goals as goal

pub guard-requires : goal.guard-requires
guard-requires c = sym c.has_guard.ensures ∙ c.if-has_guard.true

pub returns : goal.returns
returns c = record { inverted_value = plain_guard _ _ _ _ (sym c.has_guard.ensures ∙ c.if-has_guard.false); inverted_bound = omega arith }
