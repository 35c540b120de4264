use mathlib.Core.Path.{refl}
use native.Mathlib.Omega.{arith}
use borrow.Author.Rules.{rules}
use Rattle.listing.specs.Text.{decimal}
use Rattle.listing.proofs.Digits.{spelt_start, spelt_step, spelt_end}
use Rattle.listing.proofs.put_decimal.Goals as goal

pub digit_count-requires : goal.digit_count-requires
digit_count-requires c = tt

pub overflow_add-end : goal.overflow_add-end
overflow_add-end c = omega (arith, c.digit_count.ensures)

pub loop-i-init : goal.loop-i-init
loop-i-init c = (omega arith, refl, spelt_start _ _ _ _ _ c.digit_count.ensures.0 refl)

pub overflow_cast-rest : goal.overflow_cast-rest
overflow_cast-rest c = omega arith

pub overflow_add-rest : goal.overflow_add-rest
overflow_add-rest c = omega arith

pub put8-requires : goal.put8-requires
put8-requires c = tt

pub loop-i-preserved : goal.loop-i-preserved
loop-i-preserved c = (
  omega arith,
  search rules,
  rw c.put8.ensures (spelt_step c.args.out.now c.loop-i.out (decimal c.args.n) c.args.at c.loop-i.i _ c.loop-i.rest refl c.loop-i-test.true c.loop-i.invariant.2),
)

pub returns : goal.returns
returns c = (
  record { written = spelt_end c.args.out.now c.loop-i.out (decimal c.args.n) c.args.at c.loop-i.i c.loop-i.rest c.loop-i-test.false c.loop-i.invariant.2; behind = omega (arith, c.digit_count.ensures.0) },
  omega (arith, c.digit_count.ensures.1),
)
