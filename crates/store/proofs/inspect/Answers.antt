use mathlib.Core.Bool.{Bool}
use mathlib.Core.Path.{ap, ◌∙◌}
use Rattle.std.proofs.lemmas.Result.{err_from_is_err_and}
use Rattle.line.specs.Refusal.{need}
use Rattle.store.proofs.Views.{tells_size}
use Rattle.store.proofs.inspect.Goals as goal

pub returns-in_err-need : goal.returns-in_err-need
returns-in_err-need c = let p = err_from_is_err_and c.from_residual.result c.from_residual.ensures.1 in rw (p.1, p.2) (tells_size c.args.s.now _ (c.in_err-need.ensures ∙ ap (λ (b : Bool). need b 11 0) c.size_ok.ensures))
