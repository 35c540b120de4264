use Rattle.training.proofs.AheadLaws.{start-register}
use Rattle.training.proofs.start_register.Goals as goal

pub returns : goal.returns
returns c = start-register _ _ _ c.first_bits.ensures c.capacity_of.ensures
