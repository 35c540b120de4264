use mathlib.Core.Bool.{not}
use native.Mathlib.Omega.{arith}
use borrow.Author.Rules.{rules}
use borrow.Author.Tests.{leb-true}
use mathlib.Core.Path.{ap, sym, ◌∙◌}
use Rattle.settled.proofs.CallLaws.{width_some, no_mode, no_partner, no_run, first_fits, run_found, run_refused}
use Rattle.settled.proofs.find_run.Goals as goal

pub returns-then-not-mode_ok : goal.returns-then-not-mode_ok
returns-then-not-mode_ok c = no_mode _ _ _ _ _ c.mode_ok.ensures (ap not c.if-not-mode_ok.true)

pub returns-then-n-plain : goal.returns-then-n-plain
returns-then-n-plain c = no_partner _ _ _ _ _ c.mode_ok.ensures (ap not c.if-not-mode_ok.false) c.if-n-plain.true

pub returns-then-first-n : goal.returns-then-first-n
returns-then-first-n c = no_run _ _ _ _ _ c.mode_ok.ensures (ap not c.if-not-mode_ok.false) c.if-n-plain.false _ _ c.width_of-w.ensures c.first_settled-first.ensures.1 c.if-first-n.true

pub run_end-end-requires : goal.run_end-end-requires
run_end-end-requires c = (width_some _ _ c.width_of-w.ensures, c.if-n-plain.false, search rules)

pub overflow_sub-b : goal.overflow_sub-b
overflow_sub-b c = first_fits _ c.args.line.now c.args.plain.now c.args.lent _ c.mode_ok.ensures (ap not c.if-not-mode_ok.false) c.if-n-plain.false _ _ c.width_of-w.ensures c.first_settled-first.ensures.1 c.first_settled-first.ensures.0 c.if-first-n.false

pub has_room-requires : goal.has_room-requires
has_room-requires c = width_some _ _ c.width_of-w.ensures

pub overflow_mul-result : goal.overflow_mul-result
overflow_mul-result c = let h = sym c.has_room.ensures ∙ c.if-has_room.true in omega (arith, leb-true)

pub overflow_add-result-then-has_room : goal.overflow_add-result-then-has_room
overflow_add-result-then-has_room c = let h = sym c.has_room.ensures ∙ c.if-has_room.true in omega (arith, leb-true)

pub returns-then-has_room : goal.returns-then-has_room
returns-then-has_room c = run_found _ _ _ _ _ c.mode_ok.ensures (ap not c.if-not-mode_ok.false) c.if-n-plain.false _ _ c.width_of-w.ensures c.first_settled-first.ensures.1 c.first_settled-first.ensures.0 c.if-first-n.false _ c.run_end-end.ensures.1 _ c.has_room.ensures c.if-has_room.true

pub returns : goal.returns
returns c = run_refused _ _ _ _ _ c.mode_ok.ensures (ap not c.if-not-mode_ok.false) c.if-n-plain.false _ _ c.width_of-w.ensures c.first_settled-first.ensures.1 c.first_settled-first.ensures.0 c.if-first-n.false _ c.run_end-end.ensures.1 _ c.has_room.ensures c.if-has_room.false
