use Rattle.store.specs.Layout.{next}
use Rattle.store.proofs.next_of.Goals as goal

pub returns : goal.returns
unfolding next
returns c = (cc, c.get16.ensures.1)
