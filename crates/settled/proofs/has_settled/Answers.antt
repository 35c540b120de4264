use Rattle.settled.proofs.ByteLaws.{has_law}
use Rattle.settled.proofs.has_settled.Goals as goal

pub returns : goal.returns
returns c = has_law c.args.w c.args.line c.args.plain
