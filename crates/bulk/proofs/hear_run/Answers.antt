use mir.Facts.{to_z-of_z}
use mir.Syntax.{w16}
use borrow.Author.Rules.{sfits_of}
use mathlib.Core.Path.{refl}
use native.Mathlib.Omega.{arith}
use Rattle.bulk.proofs.BlockLaws.{hearing_mode, from_constellation, run_start, run_room, run_again, run_over, held_full}
use Rattle.bulk.proofs.hear_run.Goals as goal

pub loop-k-init : goal.loop-k-init
loop-k-init c =
    (run_start c.args.s _ _ c.args.from c.args.reference c.requires.begun c.requires.ready.heard, c.requires.full)

pub later-requires : goal.later-requires
later-requires c = run_room c.args.s _ _ _ _ _ _ (omega (arith, c.well_formed)) c.requires.ready.heard.free c.loop-k.invariant.0

pub returns-then-is_origin : goal.returns-then-is_origin
returns-then-is_origin c = rw c.later.ensures c.loop-k.invariant.0

pub settled_point-h-requires : goal.settled_point-h-requires
settled_point-h-requires c = hearing_mode _ _ _ _ _ _ _ c.loop-k.invariant.0 c.loop-k-test.true

pub loop-k-preserved : goal.loop-k-preserved
loop-k-preserved c =
    let re = to_z-of_z (sfits_of {w = w16} c.re-1.given) in
    let im = to_z-of_z (sfits_of {w = w16} c.im-1.given) in (
      run_again c.args.s _ _ _ _ c.args.from c.loop-k.k c.loop-k.x c.loop-k.bits c.loop-k.held c.loop-k.count c.loop-k.invariant.0 c.loop-k-test.true _ _ re im _ _ _ _ _ _
          c.requires.ready.rows_are c.loop-k.invariant.1 c.is_origin.ensures c.if-is_origin.false c.settled_point-h.ensures
          (from_constellation c.args.s.mode _ _ _ _ _ (sfits_of {w = w16} c.re-1.given) (sfits_of {w = w16} c.im-1.given) c.constellation-constellation.ensures (rw (re, im) at c.squared_distance-u.ensures))
          c.plain_byte.ensures c.held_next-held.ensures refl,
      held_full c.args.s.mode c.loop-k.held _ c.loop-k.invariant.1 c.held_next-held.ensures,
    )

pub later-requires-2 : goal.later-requires-2
later-requires-2 c = run_room c.args.s _ _ _ _ _ _ (omega (arith, c.well_formed)) c.requires.ready.heard.free (run_over c.args.s _ _ _ _ _ _ _ _ _ c.loop-k.invariant.0 (omega arith))

pub returns : goal.returns
returns c = rw c.later-2.ensures (run_over c.args.s _ _ _ _ _ _ _ _ _ c.loop-k.invariant.0 (omega arith))
