use mathlib.Core.Path.{◌∙◌}
use mathlib.Core.List.{[], ◌∷◌}
use lib.ListN.{length}
use Rattle.store.specs.Reads.{read_number, read_count, read_result}
use Rattle.kerambiu.proofs.CountedLaws.{count_short, count_given}
use Rattle.kerambiu.proofs.kerambiu_read.Goals as goal

pub returns-then-count-lt1 : goal.returns-then-count-lt1
returns-then-count-lt1 c =
    count_short c.args.count.now (read_number c.args.store.now (length c.args.out.now) c.args.offset) (read_count c.args.store.now (length c.args.out.now) c.args.offset) (read_result c.args.store.now c.args.out.now c.args.offset) c.args.out.now c.if-count-lt1.true

pub returns-in-Err : goal.returns-in-Err
returns-in-Err c =
    count_given c.args.count.now _ _ _ _ _ [] _ c.if-count-lt1.false (c.number.ensures ∙ c.in-Err.ensures.0.number) c.in-Err.ensures.0.counts c.in-Err.ensures.1

pub returns-in-Ok : goal.returns-in-Ok
returns-in-Ok c =
    count_given c.args.count.now _ _ _ _ 0 (c.in-Ok.events ∷ []) _ c.if-count-lt1.false c.in-Ok.ensures.0.number c.in-Ok.ensures.0.counts c.in-Ok.ensures.1
