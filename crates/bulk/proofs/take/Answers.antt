use Rattle.std.proofs.Common.{rules, refl}
use Rattle.bulk.proofs.BlockLaws.{take-bits}
use Rattle.bulk.proofs.take.Goals as goal

pub returns-in-Some : goal.returns-in-Some
returns-in-Some c = take-bits _ _ _ _ _ _ _ _ _ (search rules) c.requires.0 c.group_by-line.ensures c.descramble_group-d.ensures refl
