use mathlib.Core.Path.{refl, ap, ◌∙◌}
use mir.Facts.{to_z-of_z}
use mir.Syntax.{w16}
use borrow.Author.Rules.{rules}
use Rattle.std.specs.Prelude.{Some}
use Rattle.std.proofs.lemmas.Result.{err_from_is_err_and}
use Rattle.store.specs.Layout.{point, lost}
use Rattle.track_capture.proofs.EventLaws.{refused-step, short_step}
use Rattle.track_capture.proofs.append_next.Goals as goal

pub returns-in_default : goal.returns-in_default
returns-in_default c = short_step _ _ _ _ c.next_event.ensures c.in_default.is refl

pub returns-in_err-append_point-in-Point : goal.returns-in_err-append_point-in-Point
returns-in_err-append_point-in-Point c =
    let a = rw (to_z-of_z {w = w16} {z = c.in-Point.re} (search rules), to_z-of_z {w = w16} {z = c.in-Point.im} (search rules)) at c.in_err-append_point-in-Point.ensures in
    let p = err_from_is_err_and c.from_residual.result c.from_residual.ensures.1 in rw (p.1, p.2) (refused-step _ _ _ _ c.next_event.ensures _ (point _) (c.in-Some.is ∙ ap Some c.in-Point.is) refl _ a)

pub returns-in_err-append_lost-in-Lost : goal.returns-in_err-append_lost-in-Lost
returns-in_err-append_lost-in-Lost c =
    let p = err_from_is_err_and c.from_residual-in_err-append_lost-in-Lost.result c.from_residual-in_err-append_lost-in-Lost.ensures.1 in rw (p.1, p.2) (refused-step _ _ _ _ c.next_event.ensures _ (lost _) (c.in-Some.is ∙ ap Some c.in-Lost.is) refl _ c.in_err-append_lost-in-Lost.ensures)
