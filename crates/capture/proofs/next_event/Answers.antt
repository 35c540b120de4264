use mathlib.Core.Path.{sym, ap, ap₂, ◌∙◌}
use mathlib.Core.List.{[], ◌∷◌}
use native.Mathlib.Omega.{arith}
use mir.Syntax.{w16}
use mir.Facts.{to_z-of_z}
use Rattle.line.specs.Point.{at}
use Rattle.store.specs.Layout.{point, lost}
use Rattle.capture.proofs.FirstLaws.{first_past, first_point, first-cut, first_lost}
use borrow.Author.Rules.{sfits_of}
use Rattle.capture.proofs.next_event.Goals as goal

pub returns-then-input-at : goal.returns-then-input-at
returns-then-input-at c =
    sym (first_past c.args.input.now c.args.at (omega arith))

pub returns-then-left-lt4 : goal.returns-then-left-lt4
returns-then-left-lt4 c =
    sym (first_past c.args.input.now c.args.at (omega arith))

pub returns-then-get32-ne-LOST_MARK : goal.returns-then-get32-ne-LOST_MARK
returns-then-get32-ne-LOST_MARK c =
    ap₂ (λ x y. point (at x y) ∷ [])
    (to_z-of_z (sfits_of {w = w16} c.get_i16.type_inv))
    (to_z-of_z (sfits_of {w = w16} c.get_i16-then-get32-ne-LOST_MARK.type_inv))
    ∙ ap₂ (λ x y. point (at x y) ∷ []) c.get_i16.ensures c.get_i16-then-get32-ne-LOST_MARK.ensures
    ∙ sym (first_point c.args.input.now c.args.at (omega arith) (λ e. c.if-get32-ne-LOST_MARK.true (c.get32.ensures.0 ∙ e)))

pub returns-then-left-lt8 : goal.returns-then-left-lt8
returns-then-left-lt8 c =
    sym (first-cut c.args.input.now c.args.at (omega arith) (omega (arith, c.get32.ensures.0)) (omega arith))

pub returns : goal.returns
returns c =
    ap (λ n. lost n ∷ []) c.get32-2.ensures.0
    ∙ sym (first_lost c.args.input.now c.args.at (omega (arith, c.get32.ensures.0)) (omega arith))
