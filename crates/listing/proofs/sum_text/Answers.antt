use mathlib.Core.Path.{sym, ap, ◌∙◌}
use lib.ListN.{length}
use Rattle.std.proofs.lemmas.Result.{err_from_is_err_and}
use Rattle.store.specs.Store.{events, refusal}
use Rattle.summing.specs.Sums.{sums_of}
use Rattle.line.proofs.RefusalLaws.{some_number}
use Rattle.listing.proofs.Writes.{wrote_as}
use Rattle.listing.proofs.LastLines.{writes_none, writes_line, line_need, last_sums, last_refused}
use Rattle.listing.proofs.sum_text.Goals as goal

pub returns-in_err-need : goal.returns-in_err-need
returns-in_err-need c = let p = err_from_is_err_and c.from_residual.result c.from_residual.ensures.1 in rw (p.1, p.2) (writes_none _ _ _ _ (c.in_err-need.ensures ∙ line_need (length c.args.out.now)))

pub returns-in-Err : goal.returns-in-Err
returns-in-Err c =
    writes_line _ _ _ (sym (c.in_ok-need.ensures ∙ line_need (length c.args.out.now))) (wrote_as (last_refused c.args.store.now _ (c.number.ensures ∙ c.in-Err.ensures) (λ z. some_number _ (sym c.number.ensures ∙ z))) c.put_refused.ensures)

pub returns-in-Ok : goal.returns-in-Ok
returns-in-Ok c =
    let e = c.in-Ok.ensures in
    writes_line _ _ _ (sym (c.in_ok-need.ensures ∙ line_need (length c.args.out.now))) (wrote_as (last_sums c.args.store.now _ (ap refusal (sym e) ∙ c.in-Ok.track.accepted) (c.chain_sums.ensures.0 ∙ ap (λ s. sums_of (events s)) e)) c.put_sums.ensures)
