use mathlib.Core.Path.{◌∙◌}
use Rattle.track_capture.proofs.CaptureLaws.{copying_start, copying_step}
use Rattle.track_capture.proofs.put_chain.Goals as goal

pub loop-record-init : goal.loop-record-init
loop-record-init c = copying_start _ _ _ c.args.track.accepted (c.into_iter-record-iterator.ensures.into_iter_gives ∙ c.records-record-items.ensures)

pub loop-record-preserved : goal.loop-record-preserved
loop-record-preserved c = copying_step _ _ _ _ _ _ _ _ _ c.loop-record.invariant c.in-Some.ensures.steps c.put_record-at.ensures.0 c.put_record-at.ensures.1
