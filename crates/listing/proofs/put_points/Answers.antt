use lib.ListN.{replicate, length-take}
use mathlib.Core.Path.{refl}
use native.Mathlib.Omega.{arith}
use Rattle.line.proofs.ByMode.{width_range}
use Rattle.bulk.specs.Block.{parts}
use Rattle.listing.proofs.PointTexts.{places, is_taken_lem, points_went}
use borrow.Author.Rules.{rules}
use Rattle.listing.proofs.put_points.Goals as goal

pub slice_bounds-receive_points-end : goal.slice_bounds-receive_points-end
slice_bounds-receive_points-end c = simp length-take (search rules)

pub slice_bounds-put_lines-end : goal.slice_bounds-put_lines-end
slice_bounds-put_lines-end c = simp length-take (search rules)

pub slice_bounds-put_lines-end-2 : goal.slice_bounds-put_lines-end-2
slice_bounds-put_lines-end-2 c = simp length-take (search rules)

pub put_lines-at-requires : goal.put_lines-at-requires
put_lines-at-requires c =
    let p = places c.args.r.now c.args.n c.args.from.state _ c.numbers_of-numbers.ensures c.requires.0 c.requires.1 c.requires.2 in
    simp length-take (omega (arith, c.width_of-w.ensures, width_range c.args.from.state.mode))

pub returns-in_default : goal.returns-in_default
returns-in_default c =
    absurd (c.in_default.not-Ok _ (is_taken_lem c.args.r.now c.args.n c.args.from.state _ c.numbers_of-numbers.ensures c.requires.0 c.requires.1 c.requires.2 (parts (replicate 7 0) (replicate 7 0) (replicate 7 0)) refl refl refl _ c.receive_points-taken.ensures.value.0))

pub returns : goal.returns
returns c =
    points_went c.args.r.now c.args.n c.args.from.state _ c.numbers_of-numbers.ensures c.requires.0 c.requires.1 c.requires.2 (parts (replicate 7 0) (replicate 7 0) (replicate 7 0)) refl refl refl _ _ _ _ c.receive_points-taken.ensures.value.1 c.receive_points-taken.ensures.value.0 c.in-Ok.is c.width_of-w.ensures c.put_lines-at.ensures
