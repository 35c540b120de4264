use Rattle.store.specs.Store.{has_mark}
use borrow.Author.Rules.{rules}
use Rattle.store.proofs.has_mark.Goals as goal

pub returns : goal.returns
unfolding has_mark
returns c = search rules
