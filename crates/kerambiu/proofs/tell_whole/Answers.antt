use mathlib.Core.Path.{◌∙◌, ap}
use Prim.Native.Nat.{ℕ}
use lib.Dec.{leb}
use lib.ListN.{length, length-set}
use Rattle.line.specs.Refusal.{need}
use Rattle.kerambiu.proofs.tell_whole.Goals as goal

pub returns : goal.returns
returns c = (c.number_of.ensures ∙ c.need.ensures ∙ ap (λ (n : ℕ). need (leb 1 n) 7 0) (ap length c.put8.ensures ∙ length-set c.args.whole.now 0 _), c.put8.ensures)
