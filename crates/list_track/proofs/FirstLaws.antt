-- The listing that stands at the start of a buffer which holds any. Assumes nothing.
use Prim.Native.Nat.{ℕ, ◌≤◌}
use mathlib.Core.Path.{◌≡◌, refl, sym, ap}
use mathlib.Core.List.{List, [], ◌∷◌}
use lib.ListN.{length, take}
use Rattle.std.specs.Prelude.{Result, Ok, Err}
use Rattle.std.specs.Result.{result_unwrap_or}
use Rattle.line.specs.declared.refusal.Refusal.{Refusal}
use Rattle.listing.specs.Text.{longest, text, counts_of, list_counts, list_result}
use Rattle.listing.proofs.Texts.{text_given, text-back}

-- n is the count that the call gives, or 0 for a refused one
pub given_text : (s out out' : List ℕ) → length out ≡ longest → (r : Result ℕ Refusal) (n : ℕ) → n ≡ result_unwrap_or r 0
    → counts_of r ≡ list_counts s (length out) → out' ≡ list_result s out
    → (n ≡ length (text s)) × (take n out' ≡ text s) × ((n ≤ length out') × (n ≡ length (take n out')))
given_text s out out' l (Ok k) n e c w = text-back s out out' l (k ∷ []) c w n (ap (λ (i : ℕ). i ∷ []) (sym e))
given_text s out out' l (Err f) n e c w = absurd (text_given s out out' l [] c w refl)
