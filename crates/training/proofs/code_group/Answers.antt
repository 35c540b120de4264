use Rattle.training.proofs.CoderLaws.{code_law}
use Rattle.training.proofs.code_group.Goals as goal

pub returns : goal.returns
returns c = search code_law
