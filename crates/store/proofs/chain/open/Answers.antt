use native.Mathlib.Omega.{arith}
use Rattle.store.proofs.Views.{told_viewed}
use Rattle.store.proofs.chain.open.Goals as goal

pub invariant_of-result : goal.invariant_of-result
invariant_of-result c = let w = told_viewed c.args.store.now _ c.in_ok-inspect.ensures in record { accepted = w.accepted; total_fits = omega (arith, w.total_is, w.small.2) }
