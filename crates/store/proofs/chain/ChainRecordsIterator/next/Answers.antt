use mathlib.Core.Path.{sym, ap, ◌∙◌}
use native.Mathlib.Omega.{arith}
use mathlib.Core.List.{List, ◌∷◌}
use Prim.Native.Nat.{ℕ}
use lib.ListN.{length}
use Rattle.store.specs.Records.{records_from}
use Rattle.store.proofs.RecordRuns.{from_end, on_within, on_next}
use Rattle.store.proofs.chain.ChainRecordsIterator.next.Goals as goal

pub returns-then-i-eq0-clause-steps : goal.returns-then-i-eq0-clause-steps
returns-then-i-eq0-clause-steps c = let e = sym c.self.view_is ∙ from_end _ _ c.if-i-eq0.true in (e, e)

pub next_of-self-inside-requires : goal.next_of-self-inside-requires
next_of-self-inside-requires c = on_within _ _ c.self.invariant c.if-i-eq0.false

pub record_at-requires : goal.record_at-requires
record_at-requires c = on_within _ _ c.self.invariant c.if-i-eq0.false

pub invariant_of-self : goal.invariant_of-self
invariant_of-self c = (on_next _ _ c.self.invariant c.if-i-eq0.false _ c.next_of-self-inside.ensures.0).0

pub returns-clause-steps : goal.returns-clause-steps
returns-clause-steps c =
    sym c.self.view_is ∙ (on_next _ _ c.self.invariant c.if-i-eq0.false _ c.next_of-self-inside.ensures.0).1
    ∙ ap (λ (r : List ℕ). r ∷ records_from c.self.inside.bytes.now c.next_of-self-inside.result) (sym c.record_at.ensures.0)

pub returns-clause-goes : goal.returns-clause-goes
returns-clause-goes c = record {
  on = λ h. (tt, tt, let e = ap length (sym c.self.view_is ∙ (on_next _ _ c.self.invariant c.if-i-eq0.false _ c.next_of-self-inside.ensures.0).1) in omega (arith, e));
  keeps = tt;
  rests = λ h. tt;
}
