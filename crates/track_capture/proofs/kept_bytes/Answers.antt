use native.Mathlib.Omega.{arith}
use Rattle.std.proofs.lemmas.Result.{err_from_is_err_and}
use Rattle.store.proofs.Views.{told_viewed}
use Rattle.track_capture.proofs.CutLaws.{keeps_refused, keeps_bytes}
use Rattle.track_capture.proofs.kept_bytes.Goals as goal

pub returns-in_err-v : goal.returns-in_err-v
returns-in_err-v c = let p = err_from_is_err_and c.from_residual.result c.from_residual.ensures.1 in rw (p.1, p.2) (keeps_refused c.args.store.now _ c.in_err-v.ensures.number)

pub overflow_add-v : goal.overflow_add-v
overflow_add-v c = let v = told_viewed _ _ c.in_ok-v.ensures in omega (arith, v.small)

pub overflow_mul-v : goal.overflow_mul-v
overflow_mul-v c = let v = told_viewed _ _ c.in_ok-v.ensures in omega (arith, v.small)

pub returns : goal.returns
returns c = keeps_bytes _ _ _ (told_viewed _ _ c.in_ok-v.ensures) (omega (arith, c.max.ensures))
