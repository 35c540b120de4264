use Rattle.settled.proofs.ByteLaws.{all_law}
use Rattle.settled.proofs.all_settled.Goals as goal

pub returns : goal.returns
returns c = all_law c.args.w c.args.line c.args.plain c.requires
