use mir.Syntax.{w16}
use mir.Facts.{to_z-of_z}
use borrow.Author.Rules.{sfits_of}
use Rattle.line.specs.Point.{in_range}
use Rattle.store.proofs.point_ok.Goals as goal

pub returns : goal.returns
unfolding in_range
returns c = let a = rw (to_z-of_z (sfits_of {w = w16} c.get_i16.type_inv)) at c.coordinate_ok.ensures in let b = rw (to_z-of_z (sfits_of {w = w16} c.get_i16-2.type_inv)) at c.coordinate_ok-2.ensures in cc (a, b)
