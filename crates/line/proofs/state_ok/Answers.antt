use native.Mathlib.Omega.{arith}
use Rattle.line.proofs.StateLaws.{states_1, states_4}
use Rattle.line.proofs.state_ok.Goals as goal

pub returns-in-0-to-1 : goal.returns-in-0-to-1
returns-in-0-to-1 c = states_1 _ _ _ c.column_of.ensures (omega arith)

pub returns-in_default : goal.returns-in_default
returns-in_default c = states_4 _ _ _ c.column_of.ensures (omega arith) (λ q. omega arith) (λ q. omega arith)
