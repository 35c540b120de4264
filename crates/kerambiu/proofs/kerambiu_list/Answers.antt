use mathlib.Core.Path.{◌∙◌}
use mathlib.Core.List.{[], ◌∷◌}
use lib.ListN.{length}
use Rattle.listing.specs.Text.{text, list_number, list_result}
use Rattle.kerambiu.proofs.CountedLaws.{count_short, count_given}
use Rattle.kerambiu.proofs.kerambiu_list.Goals as goal

pub returns-then-count-lt1 : goal.returns-then-count-lt1
returns-then-count-lt1 c =
    count_short c.args.count.now (list_number (length c.args.out.now)) (length (text c.args.store.now)) (list_result c.args.store.now c.args.out.now) c.args.out.now c.if-count-lt1.true

pub returns-in-Err : goal.returns-in-Err
returns-in-Err c =
    count_given c.args.count.now _ _ _ _ _ [] _ c.if-count-lt1.false (c.number.ensures ∙ c.in-Err.ensures.0) c.in-Err.ensures.1 c.in-Err.ensures.2

pub returns-in-Ok : goal.returns-in-Ok
returns-in-Ok c =
    count_given c.args.count.now _ _ _ _ 0 (c.in-Ok.bytes ∷ []) _ c.if-count-lt1.false c.in-Ok.ensures.0 c.in-Ok.ensures.1 c.in-Ok.ensures.2
