use Prim.Native.Nat.{◌*◌, ◌/◌}
use mathlib.Core.Path.{ap}
use native.Mathlib.Omega.{arith}
use Rattle.line.proofs.ByMode.{width_range}
use Rattle.playback.proofs.BlockLaws.{groups_in}
use borrow.Author.Rules.{rules}
use Rattle.playback.proofs.whole_bits.Goals as goal

-- src/lib.rt:49:13

pub width_of-w-requires : goal.width_of-w-requires
width_of-w-requires c = search rules

-- src/lib.rt:49:13

pub overflow_cast-w : goal.overflow_cast-w
overflow_cast-w c = search rules

-- src/lib.rt:50:5

pub nonzero_div-result : goal.nonzero_div-result
nonzero_div-result c = omega (arith, c.width_of-w.ensures, width_range c.args.mode)

-- src/lib.rt:50:5

pub overflow_mul-result : goal.overflow_mul-result
overflow_mul-result c = omega (arith, groups_in c.args.n c.width_of-w.result)

-- src/lib.rt:46:1

pub returns : goal.returns
returns c = (ap (λ w. c.args.n / w * w) c.width_of-w.ensures, groups_in c.args.n c.width_of-w.result)
