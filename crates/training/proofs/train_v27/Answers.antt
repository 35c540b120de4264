use Rattle.training.proofs.AheadLaws.{reversal_27, change_27, ones_27}
use Rattle.training.proofs.train_v27.Goals as goal

pub returns-then-i-n : goal.returns-then-i-n
returns-then-i-n c = search reversal_27

pub returns-then-i-n-2 : goal.returns-then-i-n-2
returns-then-i-n-2 c = search change_27

pub returns : goal.returns
returns c = search ones_27
