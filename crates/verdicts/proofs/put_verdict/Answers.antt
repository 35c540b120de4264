use Rattle.std.proofs.Common.{true, false}
use Rattle.verdicts.proofs.Writing.{verdict_put}
use Rattle.verdicts.proofs.put_verdict.Goals as goal

pub returns-then-unwrap_or : goal.returns-then-unwrap_or
returns-then-unwrap_or c = verdict_put _ _ _ _ _ _ c.check.ensures.value _ c.unwrap_or.ensures true c.if-unwrap_or.true c.put_words.ensures

pub returns-else-unwrap_or : goal.returns-else-unwrap_or
returns-else-unwrap_or c = verdict_put _ _ _ _ _ _ c.check.ensures.value _ c.unwrap_or.ensures false c.if-unwrap_or.false c.put_words-else-unwrap_or.ensures
