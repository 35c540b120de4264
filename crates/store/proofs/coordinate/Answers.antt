use mir.Val.{SFits}
use mir.Facts.{to_z-of_z, sfits_widen}
use mir.Syntax.{w16, w64}
use borrow.Author.Rules.{sfits_of}
use Rattle.store.proofs.coordinate.Goals as goal

pub overflow_cast-result : goal.overflow_cast-result
overflow_cast-result c = let f : SFits w16 c.get_i16.result = sfits_of c.get_i16.type_inv in rw (to_z-of_z f) (sfits_widen tt f)

pub returns : goal.returns
returns c = let f : SFits w16 c.get_i16.result = sfits_of c.get_i16.type_inv in rw (to_z-of_z f, to_z-of_z {w = w64} (sfits_widen tt f)) c.get_i16.ensures
