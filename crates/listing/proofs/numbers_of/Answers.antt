use mathlib.Core.Path.{refl, ◌∙◌}
use mir.Facts.{to_z-of_z}
use mir.Syntax.{w16}
use borrow.Author.Rules.{sfits_of}
use lib.ListN.{length-set}
use Rattle.listing.proofs.PointTexts.{numbers-start, numbers_again, numbers_end}
use Rattle.listing.proofs.numbers_of.Goals as goal

pub loop-k-init : goal.loop-k-init
loop-k-init c = (refl, numbers-start c.args.r.now _ refl)

pub get_i16-requires : goal.get_i16-requires
get_i16-requires c = tt

pub loop-k-preserved : goal.loop-k-preserved
loop-k-preserved c = (
  simp length-set c.loop-k.invariant.0,
  numbers_again c.args.r.now c.loop-k.numbers _ c.loop-k.k _ c.loop-k-test.true (to_z-of_z (sfits_of {w = w16} c.get_i16.type_inv) ∙ c.get_i16.ensures) c.loop-k.invariant.1,
)

pub returns : goal.returns
returns c = numbers_end c.args.r.now c.loop-k.numbers _ c.loop-k.k c.loop-k-test.false c.loop-k.invariant.1
