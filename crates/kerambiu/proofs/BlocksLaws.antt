-- What `check` of v41 answers, in a lent byte. Assumes nothing.
use Prim.Native.Nat.{ℕ, zero, suc, ◌≤◌}
use mathlib.Core.Path.{◌≡◌, refl, sym, ap, ◌∙◌}
use mathlib.Core.Bool.{Bool, true, false, cond}
use mathlib.Core.List.{List, [], ◌∷◌}
use native.Mathlib.Omega.{arith}
use borrow.Author.Tests.{leb-false}
use lib.Dec.{leb}
use lib.ListN.{length}
use lib.Seq.{sets}
use Rattle.std.specs.Int.{from_bool}
use Rattle.std.specs.Prelude.{Ok, Err}
use Rattle.line.specs.declared.refusal.Refusal.{Refusal}
use Rattle.line.specs.Refusal.{number, need, or_next, accepted}
use Rattle.line.proofs.RefusalLaws.{some_number, or_some, left_done, left_kept}
use Rattle.line.proofs.Sets.{sets_out}
use Rattle.v41.specs.Block.{leaves_nothing, check_refusal, CheckTold}
use Rattle.kerambiu.specs.Blocks.{whole_number, whole_result}

module _ (bits whole : List ℕ) where
  abbrev Ends : ℕ → List ℕ → Type 0
  Ends n w = (n ≡ whole_number bits whole) × (w ≡ whole_result bits whole)

  pub whole_refused : (e : Refusal) → CheckTold bits (Err e) → Ends (number e) whole
  unfolding whole_number whole_result
  whole_refused e told =
      let n : number e ≡ or_next (check_refusal bits) (need (leb 1 (length whole)) 7 0) =
      or_some (number e) _ (some_number e) ∙ ap (λ (k : ℕ). or_next k (need (leb 1 (length whole)) 7 0)) told.number_is in
      (n, left_kept _ _ whole (λ z. some_number e (n ∙ z)))

  -- `v` is the byte that is written
  pub whole_told : (t : Bool) (v m : ℕ) (w : List ℕ) → CheckTold bits (Ok t) → v ≡ from_bool t → m ≡ need (leb 1 (length whole)) 7 0 → w ≡ sets whole 0 (v ∷ []) → Ends m w
  unfolding whole_number whole_result
  whole_told t v m w told ev em ew =
      let z : check_refusal bits ≡ 0 = sym told.number_is in
      let l : t ≡ leaves_nothing bits = told.accepted_is ∙ sym (left_done (check_refusal bits) (leaves_nothing bits) false z) in
      (rw z em, rw (z, sym l) (none (leb 1 (length whole)) refl))
    where
      of_bool : (t : Bool) → from_bool t ≡ cond t 1 0
      of_bool true = refl
      of_bool false = refl

      byte : w ≡ sets whole 0 (cond t 1 0 ∷ [])
      byte = ew ∙ ap (λ (n : ℕ). sets whole 0 (n ∷ [])) (ev ∙ of_bool t)

      none : (b : Bool) → leb 1 (length whole) ≡ b → w ≡ accepted (need b 7 0) (sets whole 0 (cond t 1 0 ∷ [])) whole
      none true f = byte
      none false f = byte ∙ sets_out (cond t 1 0 ∷ []) whole 0 (empty whole f)
        where
          empty : (l : List ℕ) → leb 1 (length l) ≡ false → length l ≤ 0
          empty l f = let q = leb-false 1 (length l) f in omega arith
