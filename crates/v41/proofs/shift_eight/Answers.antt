use Prim.Native.Nat.{◌/◌}
use native.Mathlib.Omega.{arith}
use lib.Bits.{xor_lt}
use Rattle.v41.specs.Register.{folded, next_eight}
use Rattle.v41.proofs.EightLaws.{eight_law, eight_small}
use Rattle.v41.proofs.shift_eight.Goals as goal

pub overflow_mul-left : goal.overflow_mul-left
overflow_mul-left c = let x = xor_lt 8 (c.args.r / 256) (c.args.r / 256 / 16) (omega arith) (omega arith) in omega arith

pub overflow_mul-left-2 : goal.overflow_mul-left-2
overflow_mul-left-2 c = let x = xor_lt 8 (c.args.r / 256) (c.args.r / 256 / 16) (omega arith) (omega arith) in omega arith

pub returns : goal.returns
unfolding folded next_eight
returns c = (eight_law c.args.r c.args.v c.requires.0 c.requires.1, eight_small c.args.r c.args.v c.requires.0 c.requires.1)
