use mathlib.Core.Path.{sym, ◌∙◌}
use borrow.Author.Rules.{rules}
use Rattle.listing.proofs.Lines.{points_free, went_points, is_gap, went_lost}
use Rattle.listing.proofs.put_record.Goals as goal

pub put_points-requires : goal.put_points-requires
put_points-requires c =
    let f = points_free c.args.r.now _ c.args.from.state c.requires.1 c.requires.0 (sym c.get8.ensures.0 ∙ c.if-get8-eq1.true) c.get8-then-get8-eq1.ensures.0 in
    (f.0, f.1, f.2, c.requires.2)

pub returns-then-get8-eq1 : goal.returns-then-get8-eq1
returns-then-get8-eq1 c =
    went_points c.args.r.now _ c.args.from.state c.requires.1 (sym c.get8.ensures.0 ∙ c.if-get8-eq1.true) c.get8-then-get8-eq1.ensures.0 c.put_points.ensures

pub returns-in_default : goal.returns-in_default
returns-in_default c =
    let e = c.receive_gap-o.ensures.value ∙ is_gap c.args.r.now _ c.args.from.state c.requires.1 (λ e. c.if-get8-eq1.false (c.get8.ensures.0 ∙ e)) c.get32-n.ensures.0 in
    search rules

pub returns-in_default-2 : goal.returns-in_default-2
returns-in_default-2 c =
    let e = c.receive_gap-o.ensures.value ∙ is_gap c.args.r.now _ c.args.from.state c.requires.1 (λ e. c.if-get8-eq1.false (c.get8.ensures.0 ∙ e)) c.get32-n.ensures.0 in
    search rules

pub returns : goal.returns
returns c =
    went_lost c.args.r.now _ c.args.from.state c.requires.1 (λ e. c.if-get8-eq1.false (c.get8.ensures.0 ∙ e)) c.get32-n.ensures.0 c.in-Ok-Gap.state _ c.in-Ok-Gap.field-0-0 c.receive_gap-o.ensures.told (search rules) c.put_lost-at.ensures.0
