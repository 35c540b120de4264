use mathlib.Core.Path.{◌∙◌}
use Rattle.summing.proofs.SumLaws.{same_sums}
use Rattle.summing.proofs.Walks.{summing_start, summing_room, summing_step, summing_end}
use Rattle.summing.proofs.chain_sums.Goals as goal

pub loop-record-init : goal.loop-record-init
loop-record-init c = summing_start _ _ _ c.args.track.accepted (same_sums _ _ c.default-v.ensures.0 c.default-v.ensures.1.0 c.default-v.ensures.1.1) (c.into_iter-record-iterator.ensures.into_iter_gives ∙ c.records-record-items.ensures)

pub added-v-requires : goal.added-v-requires
added-v-requires c = (summing_room _ _ _ c.loop-record.invariant, c.record_sums.ensures.1)

pub loop-record-preserved : goal.loop-record-preserved
loop-record-preserved c = summing_step _ _ _ _ _ _ _ c.loop-record.invariant c.in-Some.ensures.steps c.record_sums.ensures.0 c.record_sums.ensures.1 c.added-v.ensures

pub returns : goal.returns
returns c = summing_end _ _ _ c.loop-record.invariant c.in-None.ensures.steps.0 c.args.track.accepted c.args.track.total_fits
