use mathlib.Core.Path.{refl}
use native.Mathlib.Omega.{arith}
use borrow.Author.Rules.{rules, sfits_of}
use mir.Facts.{to_z-of_z}
use mir.Syntax.{w64}
use Rattle.store.proofs.Readings.{copy_start, copy_step, copy_end}
use Rattle.store.proofs.put_points.Goals as goal

pub loop-k-init : goal.loop-k-init
loop-k-init c = (omega arith, refl, copy_start c.args.r.now c.args.n c.args.out.now c.args.at)

pub loop-k-preserved : goal.loop-k-preserved
loop-k-preserved c = (
  omega arith,
  search rules,
  copy_step c.args.r.now c.args.n c.args.out.now c.loop-k.out _ c.args.at c.loop-k.k _ _ c.loop-k-test.true c.coordinate-re.ensures c.coordinate-im.ensures
      (rw (to_z-of_z (sfits_of {w = w64} c.coordinate-re.type_inv), to_z-of_z (sfits_of {w = w64} c.coordinate-im.type_inv)) at c.put_event.ensures) c.loop-k.invariant.2,
)

pub returns : goal.returns
returns c = copy_end c.args.r.now c.args.n c.args.out.now c.loop-k.out c.args.at c.loop-k.k c.loop-k-test.false c.loop-k.invariant.2
