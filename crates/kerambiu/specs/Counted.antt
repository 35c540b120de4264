-- Calls for C that also say how much they wrote: the count stands in the first of the lent counts, the others stay as they are.
use Rattle.std.specs.Prelude.{ℕ, Bool, cond, List, [], ◌∷◌, leb, length}
use Rattle.std.proofs.lemmas.List.Edits.{sets}
use Rattle.line.specs.Refusal.{need, accepted}

-- number 7: no lent number for the count
abbrev pub holds_count : List ℕ → Bool
holds_count counts = leb 1 (length counts)

-- the number of a call that n refuses by itself
unfoldable pub counted_number : List ℕ → ℕ → ℕ
counted_number counts n = need (holds_count counts) 7 n

-- what the call leaves of `before`, which by itself it makes into `result`
unfoldable pub counted_out : {A : Type 0} → List ℕ → A → A → A
counted_out counts result before = cond (holds_count counts) result before

unfoldable pub counted_counts : List ℕ → ℕ → ℕ → List ℕ
counted_counts counts n count = accepted (counted_number counts n) (sets counts 0 (count ∷ [])) counts
