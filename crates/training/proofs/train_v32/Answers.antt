use Rattle.training.proofs.TrainingLaws.{dibit_small}
use Rattle.training.proofs.TrainingLaws.{first_32, second_32, third_32}
use Rattle.training.proofs.train_v32.Goals as goal

pub returns-then-i-lt256 : goal.returns-then-i-lt256
returns-then-i-lt256 c = search first_32

pub returns-then-i-lt272 : goal.returns-then-i-lt272
returns-then-i-lt272 c = search second_32

pub dibit_state-requires : goal.dibit_state-requires
dibit_state-requires c = search dibit_small

pub returns : goal.returns
returns c = search third_32
