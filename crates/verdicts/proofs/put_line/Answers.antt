use Rattle.std.proofs.Common.{arith}
use Rattle.verdicts.proofs.Writing.{line_put}
use Rattle.verdicts.proofs.put_line.Goals as goal

pub returns : goal.returns
returns c =
    let d = c.decimal-k.ensures in
    line_put _ _ _ d.in_bounds d.len d.digits (omega arith) _ _ _ _ _ _ _ c.put_words-p.ensures c.put_verdict.ensures
