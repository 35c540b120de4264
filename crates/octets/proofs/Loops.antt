-- What the loops over bytes ask, as laws on lists. Assumes nothing.
use mathlib.Core.Path.{◌≡◌, refl, sym, ap, ◌∙◌}
use mathlib.Core.Logic.{⊎_elim}
use mathlib.Core.Bool.{Bool, true, ◌&&◌, and-true}
use mathlib.Core.List.{List, [], ◌∷◌}
use Prim.Native.Nat.{ℕ, zero, suc, ◌+◌, ◌-◌, ◌≤◌, ◌<◌, min}
use native.Mathlib.Numerals.{add-one}
use native.Mathlib.Omega.{arith}
use lib.Dec.{eqb}
use borrow.Author.Rules.{part_to_end}
use lib.ListN.{length, get_or, set, take, drop, drop_of_length-le}
use lib.Seq.{sets, drop-cons}
use Rattle.octets.specs.Number.{zeros}
use Rattle.line.proofs.Sets.{sets_out}
use Rattle.line.proofs.Tests.{and_split, lt_or_ge}

pub zeros-drop : (n : ℕ) (bs : List ℕ) → zeros bs ≡ true → zeros (drop n bs) ≡ true
zeros-drop zero bs e = e
zeros-drop (suc n) [] e = refl
zeros-drop (suc n) (b ∷ bs) e = zeros-drop n bs (and_split (eqb b 0) (zeros bs) e).1

-- one byte more of a copy
pub copy_step : (s₀ s r : List ℕ) (at k : ℕ) → sets s (at + k) (drop k r) ≡ sets s₀ at r → k < length r
    → sets (sets s (at + k) (get_or r k 0 ∷ [])) (at + (k + 1)) (drop (k + 1) r) ≡ sets s₀ at r
copy_step s₀ s r at k e h =
    ap (λ (m : ℕ). sets (set s (at + k) (get_or r k 0)) m (drop (k + 1) r)) (let q : at + (k + 1) ≡ suc (at + k) = omega arith in q)
    ∙ ap (λ (m : ℕ). sets (set s (at + k) (get_or r k 0)) (suc (at + k)) (drop m r)) (add-one k)
    ∙ sym (ap (sets s (at + k)) (drop-cons r k 0 h)) ∙ e

pub copy_end : (s₀ s r : List ℕ) (at k : ℕ) → sets s (at + k) (drop k r) ≡ sets s₀ at r → length r ≤ k → s ≡ sets s₀ at r
copy_end s₀ s r at k e h = sym (ap (sets s (at + k)) (drop_of_length-le r h)) ∙ e

-- a copy of as many bytes as there are, or as there is room for
pub copy_all : (s₀ s r : List ℕ) (at k n : ℕ) → sets s (at + k) (drop k r) ≡ sets s₀ at r → length s ≡ length s₀ → n ≡ min (length r) (length s₀ - at) → n ≤ k
    → s ≡ sets s₀ at r
copy_all s₀ s r at k n e l m h =
    ⊎_elim (λ q. sym (sets_out (drop k r) s (at + k) (omega arith)) ∙ e) (copy_end s₀ s r at k e) (lt_or_ge k (length r))

-- the bytes of a part to the end, all looked at
pub part_zeros : (l vs : List ℕ) (i k : ℕ) (clear : Bool) → vs ≡ take (length l - i) (drop i l) → length vs ≤ k → zeros vs ≡ clear && zeros (drop k vs)
    → clear ≡ zeros (drop i l)
part_zeros l vs i k clear e h z =
    sym (z ∙ ap (λ (r : List ℕ). clear && zeros r) (drop_of_length-le vs h) ∙ and-true clear) ∙ ap zeros (e ∙ part_to_end l i)
