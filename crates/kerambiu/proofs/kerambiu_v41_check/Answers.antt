use mathlib.Core.Path.{◌∙◌}
use Rattle.kerambiu.proofs.BlocksLaws.{whole_refused, whole_told}
use Rattle.kerambiu.proofs.kerambiu_v41_check.Goals as goal

pub returns-in-Err : goal.returns-in-Err
returns-in-Err c =
    let t = whole_refused c.args.bits.now c.args.whole.now c.in-Err.refusal c.in-Err.ensures.check_told in
    (c.number.ensures ∙ t.0, t.1)

pub returns-in-Ok : goal.returns-in-Ok
returns-in-Ok c = whole_told c.args.bits.now c.args.whole.now c.in-Ok.accepted _ _ _ c.in-Ok.ensures.check_told c.from.ensures c.tell_whole.ensures.0 c.tell_whole.ensures.1
