-- The sums of a store in lent numbers. Assumes nothing.
use Prim.Native.Nat.{ℕ, ◌≤◌, ◌<◌}
use mathlib.Core.Path.{◌≡◌, ap, ◌∙◌}
use mathlib.Core.Bool.{true, false}
use mathlib.Core.List.{List}
use borrow.Author.Tests.{le-leb, lt-leb}
use lib.Dec.{leb}
use lib.ListN.{length}
use lib.Seq.{sets}
use Rattle.std.specs.Prelude.{Ok, Err}
use Rattle.line.specs.declared.refusal.Refusal.{Refusal}
use Rattle.line.specs.Refusal.{number}
use Rattle.line.proofs.RefusalLaws.{some_number, left_done, left_kept}
use Rattle.store.specs.Store.{events, refusal}
use Rattle.summing.specs.declared.EventSums.{EventSums}
use Rattle.summing.specs.Sums.{sums_of, Tells}
use Rattle.summing.proofs.Walks.{told_sums}
use Rattle.kerambiu.specs.Summing.{sums_number, three_of, sums_result}

module _ (s out : List ℕ) where
  pub sums_short : length out < 3 → (7 ≡ sums_number s (length out)) × (out ≡ sums_result s out)
  unfolding sums_number sums_result
  sums_short h = let f : leb 3 (length out) ≡ false = lt-leb _ _ h in (rw f, rw f)

  module _ (h : 3 ≤ length out) where
    room : leb 3 (length out) ≡ true
    room = le-leb _ _ h

    pub sums_kept : (e : Refusal) → Tells s (Err e) → (number e ≡ sums_number s (length out)) × (out ≡ sums_result s out)
    unfolding sums_number sums_result
    sums_kept e t = (rw room t.number, rw room (left_kept (refusal s) _ out (λ z. some_number e (t.number ∙ z))))

    pub sums_done : (v : EventSums) → Tells s (Ok v) → (0 ≡ sums_number s (length out)) × (sets out 0 (three_of v) ≡ sums_result s out)
    unfolding sums_number sums_result
    sums_done v t = let told = told_sums s v t in (rw (room, told.0), rw room (ap (λ (x : EventSums). sets out 0 (three_of x)) told.1 ∙ left_done (refusal s) _ out told.0))
