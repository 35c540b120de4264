use mathlib.Core.Path.{◌∙◌, ap}
use Rattle.line.specs.declared.Point.{Point}
use Rattle.line.proofs.Signed.{back}
use Rattle.sender.proofs.OpenLaws.{less_training, written_training}
use Rattle.sender.proofs.SendLaws.{looked_up}
use Rattle.sender.proofs.write_training.Goals as goal

pub loop-i-preserved : goal.loop-i-preserved
loop-i-preserved c = less_training _ _ _ _ _ _ _ _ c.loop-i.invariant _ _ _ c.loop-i-test.true c.train_interval-c.ensures (back _ (record { sfits = c.struct_told-in-loop-i-1.given.0.1 }) ∙ ap (λ (p : Point). p.re) (looked_up _ _ _ c.constellation-points.ensures)) (back _ (record { sfits = c.struct_told-in-loop-i-1.given.1.0.1 }) ∙ ap (λ (p : Point). p.im) (looked_up _ _ _ c.constellation-points.ensures))

pub returns : goal.returns
returns c = written_training _ c.middle_changes-t.ensures _ _ _ _ _ _ _ _ _ c.interval_count-n.ensures c.training_start-c.ensures c.loop-i.invariant c.loop-i-test.false
