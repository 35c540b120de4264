use Rattle.line.proofs.ByMode.{column-low, not-guarded, kept_short, kept_long}
use Rattle.scrambler.proofs.capacity_in.Goals as goal

pub returns-then-c-le2 : goal.returns-then-c-le2
returns-then-c-le2 c = kept_short _ _ (column-low _ c.requires) c.if-c-le2.true (not-guarded _ c.requires)

pub returns-else-c-le2 : goal.returns-else-c-le2
returns-else-c-le2 c = kept_long _ _ (column-low _ c.requires) c.if-c-le2.false (not-guarded _ c.requires)
