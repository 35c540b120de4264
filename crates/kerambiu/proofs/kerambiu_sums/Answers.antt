use mathlib.Core.Path.{◌∙◌}
use Rattle.kerambiu.proofs.SummingLaws.{sums_short, sums_kept, sums_done}
use Rattle.kerambiu.proofs.kerambiu_sums.Goals as goal

pub returns-then-sums-lt3 : goal.returns-then-sums-lt3
returns-then-sums-lt3 c = sums_short c.args.store.now c.args.sums.now c.if-sums-lt3.true

pub returns-in-Err : goal.returns-in-Err
returns-in-Err c =
    let t = sums_kept c.args.store.now c.args.sums.now c.if-sums-lt3.false c.in-Err.refusal c.in-Err.ensures in
    (c.number.ensures ∙ t.0, t.1)

pub returns-in-Ok : goal.returns-in-Ok
returns-in-Ok c = sums_done c.args.store.now c.args.sums.now c.if-sums-lt3.false c.in-Ok.v c.in-Ok.ensures
