use Rattle.std.proofs.Common.{◌∙◌}
use Rattle.verdicts.proofs.Writing.{left-next, left_none, line_room}
use Rattle.verdicts.proofs.put_lines.Goals as goal

pub put_line-at-requires : goal.put_line-at-requires
put_line-at-requires c = line_room _ _ _ _ c.requires.0 _ _ _ _ c.loop-block.invariant.1 _ _ c.in-Some.ensures.steps.1.0 (c.in-Some.ensures.steps.1.1 ∙ c.loop-block.invariant.0)

pub loop-block-preserved : goal.loop-block-preserved
loop-block-preserved c = (
  c.in-Some.ensures.steps.0 ∙ c.loop-block.invariant.0,
  left-next _ _ _ _ c.requires.0 _ _ _ _ c.loop-block.invariant.1 _ _ c.in-Some.ensures.steps.1.0 (c.in-Some.ensures.steps.1.1 ∙ c.loop-block.invariant.0) _ _ c.put_line-at.ensures,
)

pub returns : goal.returns
returns c = left_none _ _ _ _ c.requires.0 _ _ _ _ c.loop-block.invariant.1 _ c.in-None.ensures.steps.1.0 c.loop-block.invariant.0
