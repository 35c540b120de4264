use mathlib.Core.Path.{sym, ◌∙◌}
use Rattle.training.proofs.AheadLaws.{bits-guarded, bits_short, bits_long}
use Rattle.training.proofs.first_bits.Goals as goal

pub returns-then-has_guard : goal.returns-then-has_guard
returns-then-has_guard c = bits-guarded _ (sym c.has_guard.ensures ∙ c.if-has_guard.true)

pub returns-then-column_of-le2 : goal.returns-then-column_of-le2
returns-then-column_of-le2 c = bits_short _ _ c.column_of.ensures c.if-column_of-le2.true (sym c.has_guard.ensures ∙ c.if-has_guard.false)

pub returns-else-column_of-le2 : goal.returns-else-column_of-le2
returns-else-column_of-le2 c = bits_long _ _ c.column_of.ensures c.if-column_of-le2.false
