use mathlib.Core.Path.{sym, ap, ◌∙◌}
use Rattle.std.proofs.lemmas.Result.{err_from_is_err_and}
use Rattle.line.proofs.RefusalLaws.{some_number}
use Rattle.listing.specs.Text.{text}
use Rattle.listing.proofs.Writes.{wrote_as}
use Rattle.listing.proofs.Texts.{list_short, list_done, refused_text}
use Rattle.listing.proofs.list.Goals as goal

pub returns-in_err-need : goal.returns-in_err-need
returns-in_err-need c = let p = err_from_is_err_and c.from_residual.result c.from_residual.ensures.1 in rw (p.1, p.2) (list_short c.args.store.now c.args.out.now _ c.in_err-need.ensures)

pub returns-in-Err : goal.returns-in-Err
returns-in-Err c =
    list_done c.args.store.now c.args.out.now _ _ c.in_ok-need.ensures (wrote_as (refused_text c.args.store.now _ (c.number.ensures ∙ c.in-Err.ensures) (λ z. some_number _ (sym c.number.ensures ∙ z))) c.put_refused.ensures)

pub returns-in-Ok : goal.returns-in-Ok
returns-in-Ok c =
    list_done c.args.store.now c.args.out.now _ _ c.in_ok-need.ensures (wrote_as (ap text c.in-Ok.ensures) c.put_track.ensures)
