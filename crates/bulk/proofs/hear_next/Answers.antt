use mir.Facts.{to_z-of_z}
use mir.Syntax.{w16}
use mathlib.Core.Path.{refl}
use native.Mathlib.Omega.{arith}
use Rattle.bulk.specs.Block.{parts}
use Rattle.bulk.proofs.BlockLaws.{hearing_free, hearing_step}
use borrow.Author.Rules.{sfits_of}
use Rattle.bulk.proofs.hear_next.Goals as goal

pub hear-h-requires : goal.hear-h-requires
hear-h-requires c =
    rw (to_z-of_z (sfits_of {w = w16} c.hear-arg-1.given), to_z-of_z (sfits_of {w = w16} c.hear-arg-2-1.given))
    (c.requires.rows_are, hearing_free _ _ _ _ _ _ c.args.from c.requires.heard c.if-points-from.false)

pub returns : goal.returns
returns c =
    let e = rw (to_z-of_z (sfits_of {w = w16} c.hear-arg-1.given), to_z-of_z (sfits_of {w = w16} c.hear-arg-2-1.given)) at c.hear-h.ensures in
    (hearing_step c.args.s _ _ c.args.from c.args.s (parts c.args.line.now c.args.plain.now c.args.distance.now) c.args.from c.requires.heard c.if-points-from.false _ _ e refl, λ i. omega arith)
