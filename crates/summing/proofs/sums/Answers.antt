use mathlib.Core.Path.{sym, ap, ◌∙◌}
use Rattle.std.proofs.lemmas.Result.{err_from_is_err_and}
use Rattle.store.specs.Store.{events, refusal}
use Rattle.summing.specs.Sums.{sums_of}
use Rattle.summing.proofs.Walks.{sums_refused, sums_given}
use Rattle.summing.proofs.sums.Goals as goal

pub returns-in_err-track : goal.returns-in_err-track
returns-in_err-track c = let p = err_from_is_err_and c.from_residual.result c.from_residual.ensures.1 in rw (p.1, p.2) (sums_refused c.args.store.now _ c.in_err-track.ensures)

pub returns : goal.returns
returns c = let e = c.in_ok-track.ensures in sums_given c.args.store.now _ (ap refusal (sym e) ∙ c.in_ok-track.track.accepted) (c.chain_sums.ensures.0 ∙ ap (λ s. sums_of (events s)) e) c.chain_sums.ensures.1
