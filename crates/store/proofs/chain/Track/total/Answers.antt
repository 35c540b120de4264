use mathlib.Core.Path.{sym, ◌∙◌}
use Rattle.store.proofs.Records.{total-at}
use Rattle.store.proofs.chain.Track.total.Goals as goal

pub returns : goal.returns
returns c = c.get32.ensures.0 ∙ sym (total-at c.args.self.bytes.now)
