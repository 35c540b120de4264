-- What the loops ask, as laws on lists. Assumes nothing.
use Prim.Native.Nat.{ℕ, suc, ◌+◌, ◌-◌, ◌/◌, ◌%◌, ◌^◌, ◌≤◌, ◌<◌}
use mathlib.Core.Path.{◌≡◌, ap, ap₂, ◌∙◌}
use mathlib.Core.List.{List, [], ◌∷◌}
use native.Mathlib.Omega.{arith}
use lib.ListN.{length, set, drop, drop_of_length-le, length-set}
use lib.Pow.{shr-shr}
use lib.Seq.{drop-cons, get_or-set_same}
use Rattle.line.proofs.Sets.{drop-sets-le}
use Rattle.scrambler.specs.Bits.{bits}

-- the bits of a number from the last on: those from the k-th byte on are written, and the rest of the number has those before
module _ (out : List ℕ) (n k v rest : ℕ) (len : length out ≡ n) (below : k ≤ n) (e : drop k out ≡ bits (n - k) v) (q : rest ≡ v / 2 ^ (n - k)) where
  pub put_go : 0 < k → drop (k - 1) (set out (k - 1) (rest % 2)) ≡ bits (n - (k - 1)) v
  put_go h =
      drop-cons (set out (k - 1) (rest % 2)) (k - 1) 0 (omega (arith, length-set out (k - 1) (rest % 2)))
      ∙ ap₂ ◌∷◌
      (get_or-set_same out (k - 1) (rest % 2) 0 (omega arith) ∙ ap (λ (x : ℕ). x % 2) q)
      (ap (λ (j : ℕ). drop j (set out (k - 1) (rest % 2))) (let i : suc (k - 1) ≡ k = omega arith in i)
      ∙ drop-sets-le (rest % 2 ∷ []) out k (k - 1) (omega arith) ∙ e)
      ∙ ap (λ (j : ℕ). bits j v) (let i : suc (n - k) ≡ n - (k - 1) = omega arith in i)

  pub rest_go : 0 < k → rest / 2 ≡ v / 2 ^ (n - (k - 1))
  rest_go h =
      ap (λ (x : ℕ). x / 2 ^ 1) q ∙ shr-shr v (n - k) 1 ∙ ap (λ (j : ℕ). v / 2 ^ j) (let i : n - k + 1 ≡ n - (k - 1) = omega arith in i)

  pub put_end : k ≤ 0 → out ≡ bits n v
  put_end h = ap (λ (j : ℕ). drop j out) (let i : 0 ≡ k = omega arith in i) ∙ e ∙ ap (λ (j : ℕ). bits j v) (let i : n - k ≡ n = omega arith in i)

pub put_start : (out : List ℕ) (v : ℕ) → (drop (length out) out ≡ bits (length out - length out) v) × (v ≡ v / 2 ^ (length out - length out))
put_start out v =
    let z : 0 ≡ length out - length out = omega arith in
    (drop_of_length-le out (let l : length out ≤ length out = omega arith in l) ∙ ap (λ (j : ℕ). bits j v) z, (let i : v ≡ v / 2 ^ 0 = omega arith in i) ∙ ap (λ (j : ℕ). v / 2 ^ j) z)
