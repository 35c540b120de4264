use native.Mathlib.Omega.{arith}
use mathlib.Core.Path.{subst}
use mathlib.Core.List.{List}
use Prim.Native.Nat.{ℕ}
use Rattle.std.specs.Prelude.{Ok}
use Rattle.std.proofs.lemmas.Result.{err_from_is_err_and}
use Rattle.store.proofs.Views.{need_within}
use Rattle.track_capture.specs.Capturing.{Gives}
use Rattle.track_capture.proofs.CaptureLaws.{short_gives, unread_gives, written_gives}
use Rattle.track_capture.proofs.put_events.Goals as goal

pub returns-in_err-need : goal.returns-in_err-need
returns-in_err-need c = let p = err_from_is_err_and c.from_residual.result c.from_residual.ensures.1 in rw (p.1, p.2) (short_gives c.args.store.now c.args.out.now _ c.in_err-need.ensures)

pub returns-in_err-track : goal.returns-in_err-track
returns-in_err-track c = let p = err_from_is_err_and c.from_residual-in_err-track.result c.from_residual-in_err-track.ensures.1 in rw (p.1, p.2) (unread_gives c.args.store.now c.args.out.now _ (need_within _ _ 7 (omega arith) c.in_ok-need.ensures) c.in_err-track.ensures)

pub returns : goal.returns
returns c =
    subst (λ (s : List ℕ). Gives s c.args.out.now c.put_chain.new.out (Ok c.put_chain.result)) c.in_ok-track.ensures
    (written_gives _ _ _ _ (need_within _ _ 7 (omega arith) c.in_ok-need.ensures) c.in_ok-track.track.accepted c.put_chain.ensures)
