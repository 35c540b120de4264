-- Numbers written one by one. Assumes nothing.
use mathlib.Core.Path.{◌≡◌, refl, sym, ap, ◌∙◌}
use mathlib.Core.List.{List, ◌++◌}
use Prim.Native.Nat.{ℕ, ◌+◌, ◌≤◌, ◌<◌}
use native.Mathlib.Numerals.{add-one}
use lib.IntN.{ℤ, pos}
use lib.ListN.{length, get_or, drop, drop_of_length-le}
use lib.Seq.{sets, drop-cons}
use Rattle.line.proofs.Sets.{sets_then}
use Rattle.octets.specs.Number.{le16, pattern, le_i16}
use Rattle.capture.specs.Capture.{number_bytes}

-- one number more
pub numbers-step : (out next : List ℕ) (zs : List ℤ) (at k v : ℕ) → k < length zs → v ≡ pattern (get_or zs k (pos 0)) → next ≡ sets out at (le16 v)
    → sets next (at + 2) (number_bytes (drop (k + 1) zs)) ≡ sets out at (number_bytes (drop k zs))
numbers-step out next zs at k v h p e =
    ap (λ (l : List ℕ). sets l (at + 2) (number_bytes (drop (k + 1) zs))) (e ∙ ap (λ (u : ℕ). sets out at (le16 u)) p)
    ∙ sets_then (le_i16 (get_or zs k (pos 0))) (number_bytes (drop (k + 1) zs)) out at (at + 2) refl
    ∙ ap (λ (n : ℕ). sets out at (le_i16 (get_or zs k (pos 0)) ++ number_bytes (drop n zs))) (add-one k)
    ∙ sym (ap (λ (l : List ℤ). sets out at (number_bytes l)) (drop-cons zs k (pos 0) h))

pub numbers_end : (out : List ℕ) (zs : List ℤ) (at k : ℕ) → length zs ≤ k → out ≡ sets out at (number_bytes (drop k zs))
numbers_end out zs at k h = rw (drop_of_length-le zs h)
