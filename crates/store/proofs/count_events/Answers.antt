use mathlib.Core.Path.{◌∙◌}
use Rattle.store.proofs.Readings.{counting_start}
use Rattle.store.proofs.count_events.Goals as goal

pub loop-record-init : goal.loop-record-init
loop-record-init c = counting_start _ _ c.args.track.accepted (c.into_iter-record-iterator.ensures.into_iter_gives ∙ c.records-record-items.ensures)
