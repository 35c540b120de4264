-- What a call answers and leaves in the lent numbers, by its number: one pair of laws for opening and sending. Assumes nothing.
use Prim.Native.Nat.{ℕ, ◌-◌, ◌≤◌}
use mathlib.Core.Path.{◌≡◌, refl, ◌∙◌, ap, subst}
use mathlib.Core.List.{List}
use borrow.Rule.Slice.PartMut.{put_mid}
use lib.IntN.{ℤ}
use lib.ListN.{length, take, drop}
use lib.Seq.{sets}
use Rattle.std.specs.Prelude.{Result, Ok, Err}
use Rattle.line.specs.declared.refusal.Refusal.{Refusal}
use Rattle.line.specs.Refusal.{number, answered, accepted}
use Rattle.line.proofs.RefusalLaws.{some_number, answer_refused, left_kept}
use Rattle.line.proofs.Sets.{sets_part}
use Rattle.sender.specs.declared.Sender.{Sender}
use Rattle.sender.specs.Sender.{Told}

-- A CALL with the number n, which would hand on t and write vs from the offset on

module _ (n : ℕ) (t : Sender) (out : List ℤ) (off : ℕ) (vs : List ℤ) where
  abbrev pub Ends : Result Sender Refusal → List ℤ → Type 0
  Ends r xs = (r ≡ answered n t) × ((xs ≡ accepted n (sets out off vs) out) × Told n t r)

  pub call_refused : (f : Refusal) → number f ≡ n → Ends (Err f) out
  call_refused f e =
      let some : n ≡ 0 → ⊥ = λ z. some_number f (e ∙ z) in
      (answer_refused f n t e, (left_kept n _ out some, record { number_is = e; state_is = λ s. left_kept n t s some }))

  pub call_done : (u : Sender) (xs : List ℤ) → 0 ≡ n → off ≤ length out → u ≡ t → xs ≡ sets (take (length out - off) (drop off out)) 0 vs
      → Ends (Ok u) (put_mid off (length out - off) out xs)
  call_done u xs z h p q =
      subst (λ (k : ℕ). (Ok u ≡ answered k t) × ((put_mid off (length out - off) out xs ≡ accepted k (sets out off vs) out) × Told k t (Ok u))) z
      (ap Ok p, (ap (put_mid off (length out - off) out) q ∙ sets_part out off vs h, record { number_is = refl; state_is = λ s. p }))
