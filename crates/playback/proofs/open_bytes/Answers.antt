use native.Mathlib.Omega.{arith}
use lib.IntN.{pos}
use mathlib.Core.Path.{refl, sym}
use lib.ListN.{replicate, length-replicate}
use lib.Seq.{length-take-le}
use Rattle.std.proofs.lemmas.Result.{err_from_is_err_and}
use Rattle.playback.proofs.CallLaws.{open_numbered, open_refused, open_fits, open_done}
use Rattle.playback.proofs.open_bytes.Goals as goal

pub overflow_mul-e : goal.overflow_mul-e
overflow_mul-e c = omega (arith, open_fits c.args.mode c.args.role c.args.length (replicate 16928 (pos 0)) _ (length-replicate 16928 (pos 0)) c.in_ok-next.ensures.value _ refl _ c.interval_count-e.ensures)

pub slice_bounds-numbers-end : goal.slice_bounds-numbers-end
slice_bounds-numbers-end c =
    omega (arith, open_fits c.args.mode c.args.role c.args.length (replicate 16928 (pos 0)) _ (length-replicate 16928 (pos 0)) c.in_ok-next.ensures.value _ refl _ c.interval_count-e.ensures)

pub slice_bounds-hand_over-end : goal.slice_bounds-hand_over-end
slice_bounds-hand_over-end c = sym (length-take-le _ _ (omega (arith, open_fits c.args.mode c.args.role c.args.length (replicate 16928 (pos 0)) _ (length-replicate 16928 (pos 0)) c.in_ok-next.ensures.value _ refl _ c.interval_count-e.ensures)))

pub returns-in_err-next-clause-value : goal.returns-in_err-next-clause-value
returns-in_err-next-clause-value c =
    let p = err_from_is_err_and c.from_residual.result c.from_residual.ensures.1 in rw (p.1, p.2) (open_refused c.args.mode c.args.role c.args.length (replicate 16928 (pos 0)) _ (length-replicate 16928 (pos 0)) c.in_err-next.ensures.value _ c.args.out.now refl).0

pub returns-in_err-next-clause-number : goal.returns-in_err-next-clause-number
returns-in_err-next-clause-number c = open_numbered _ _ _ _ _ (returns-in_err-next-clause-value c)

pub returns-in_err-next-clause-out_after : goal.returns-in_err-next-clause-out_after
returns-in_err-next-clause-out_after c =
    (open_refused c.args.mode c.args.role c.args.length (replicate 16928 (pos 0)) _ (length-replicate 16928 (pos 0)) c.in_err-next.ensures.value _ c.args.out.now refl).1

pub returns : goal.returns
returns c =
    let answer = open_done c.args.mode c.args.role c.args.length (replicate 16928 (pos 0)) _ (length-replicate 16928 (pos 0)) c.in_ok-next.ensures.value _ refl _ _ c.args.out.now _ _ c.interval_count-e.ensures c.in_ok-next.ensures.out_after c.hand_over.ensures.value c.hand_over.ensures.out_after in
    record { value = answer.0; number = open_numbered _ _ _ _ _ answer.0; out_after = answer.1 }
