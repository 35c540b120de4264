use Rattle.std.proofs.Common.{rules, refl, arith}
use Rattle.receiver.proofs.OutcomeLaws.{bits_law}
use Rattle.receiver.proofs.take_state.Goals as goal

pub returns-in-Some-reference : goal.returns-in-Some-reference
returns-in-Some-reference c = bits_law _ _ _ _ _ (search rules) (omega arith) _ _ _ (search rules) c.group_of-line.ensures c.descramble-bits.ensures (rw c.in-Some.ensures.1 refl)
