use mathlib.Core.Path.{ap, ◌∙◌}
use native.Mathlib.Omega.{arith}
use Rattle.std.proofs.lemmas.Result.{err_from_is_err_and}
use Rattle.store.specs.Store.{head_ok}
use Rattle.store.proofs.Sounds.{size_sized}
use Rattle.store.proofs.Views.{tells_fault, tells_accepted}
use Rattle.store.proofs.inspect_sized.Goals as goal

pub follow-t-requires : goal.follow-t-requires
follow-t-requires c = size_sized c.args.s.now c.requires

pub record_at-requires : goal.record_at-requires
record_at-requires c = let z = size_sized c.args.s.now c.requires in omega (arith, z.whole, z.least)

pub returns-in_err-sized_fault : goal.returns-in_err-sized_fault
returns-in_err-sized_fault c = let p = err_from_is_err_and c.from_residual.result c.from_residual.ensures.1 in rw (p.1, p.2) (tells_fault c.args.s.now c.follow-t.result c.head_ok-head.result c.get32-total.result c.requires c.follow-t.ensures (c.head_ok-head.ensures ∙ ap head_ok c.record_at.ensures.0) c.get32-total.ensures.0 _ c.in_err-sized_fault.ensures)

pub returns : goal.returns
returns c = tells_accepted c.args.s.now c.follow-t.result c.head_ok-head.result c.get32-total.result c.requires c.follow-t.ensures (c.head_ok-head.ensures ∙ ap head_ok c.record_at.ensures.0) c.get32-total.ensures.0 c.get32-total.ensures.1 c.in_ok-sized_fault.ensures
