use mathlib.Core.Path.{sym, ◌∙◌}
use mathlib.Core.Bool.{true, false}
use mathlib.Core.List.{[], ◌∷◌}
use Rattle.kerambiu.proofs.SettledLaws.{run_short, run_given}
use Rattle.kerambiu.proofs.kerambiu_settled_bits.Goals as goal

pub returns-then-mode_ok : goal.returns-then-mode_ok
returns-then-mode_ok c = run_short c.args.mode c.args.line.now c.args.plain.now c.args.out.now c.args.run.now true c.if-run-lt3.true (sym c.if-mode_ok.true ∙ c.mode_ok.ensures)

pub returns-else-mode_ok : goal.returns-else-mode_ok
returns-else-mode_ok c = run_short c.args.mode c.args.line.now c.args.plain.now c.args.out.now c.args.run.now false c.if-run-lt3.true (sym c.if-mode_ok.false ∙ c.mode_ok.ensures)

pub returns-in-Err : goal.returns-in-Err
returns-in-Err c =
    run_given c.args.mode c.args.line.now c.args.plain.now c.args.out.now c.args.run.now _ [] _ c.if-run-lt3.false (c.number.ensures ∙ c.in-Err.ensures.told.number_is) c.in-Err.ensures.told.run_is c.in-Err.ensures.out_after

pub returns-in-Ok : goal.returns-in-Ok
returns-in-Ok c =
    run_given c.args.mode c.args.line.now c.args.plain.now c.args.out.now c.args.run.now 0 (c.in-Ok.found ∷ []) _ c.if-run-lt3.false c.in-Ok.ensures.told.number_is c.in-Ok.ensures.told.run_is c.in-Ok.ensures.out_after
