use borrow.Author.Rules.{rules}
use Rattle.store.specs.Store.{size_ok}
use Rattle.store.proofs.size_ok.Goals as goal

pub returns : goal.returns
unfolding size_ok
returns c = search rules
