use mathlib.Core.Bool.{Bool}
use mathlib.Core.Path.{ap, ◌∙◌}
use Rattle.std.proofs.lemmas.Result.{err_from_is_err_and}
use Rattle.line.specs.Refusal.{need}
use Rattle.track.proofs.Answers.{make_mode, make_size, make_taken}
use Rattle.track.proofs.make.Goals as goal

pub returns-in_err-mode_fault : goal.returns-in_err-mode_fault
returns-in_err-mode_fault c = let p = err_from_is_err_and c.from_residual.result c.from_residual.ensures.1 in rw (p.1, p.2) (make_mode c.args.store.now c.args.mode c.args.role _ c.in_err-mode_fault.ensures)

pub returns-in_err-need : goal.returns-in_err-need
returns-in_err-need c = let p = err_from_is_err_and c.from_residual-in_err-need.result c.from_residual-in_err-need.ensures.1 in rw (p.1, p.2) (make_size c.args.store.now c.args.mode c.args.role c.in_ok-mode_fault.ensures _ (c.in_err-need.ensures ∙ ap (λ (b : Bool). need b 11 0) c.size_ok.ensures))

pub returns : goal.returns
returns c = make_taken c.args.store.now c.args.mode c.args.role c.in_ok-mode_fault.ensures _ (c.in_ok-need.ensures ∙ ap (λ (b : Bool). need b 11 0) c.size_ok.ensures) c.put_head.ensures
