use mathlib.Core.Path.{refl, sym, ap, ap₂, ◌∙◌}
use mir.Syntax.{w16}
use mir.Val.{SFits}
use mir.Facts.{to_z-of_z}
use borrow.Author.Rules.{rules}
use Rattle.line.specs.Point.{at}
use Rattle.store.specs.Layout.{point}
use Rattle.capture.specs.Capture.{event_of}
use Rattle.listing.proofs.Answers.{listed_one}
use Rattle.listing.proofs.stream.list_event.Goals as goal

pub returns-in-Point : goal.returns-in-Point
returns-in-Point c =
    let re : SFits w16 c.in-Point.re = search rules in
    let im : SFits w16 c.in-Point.im = search rules in
    listed_one c.args.h c.args.out.now _ _ c.requires.2 _ _ _ _ (ap event_of c.in-Point.is ∙ ap₂ (λ x y. point (at x y)) (sym (to_z-of_z re)) (sym (to_z-of_z im))) c.receive_point-o.ensures.told refl c.list_outcome.ensures

pub returns-in-Lost : goal.returns-in-Lost
returns-in-Lost c =
    listed_one c.args.h c.args.out.now _ _ c.requires.2 _ _ _ _ (ap event_of c.in-Lost.is) c.receive_gap-o.ensures.told refl c.list_outcome-in-Lost.ensures
