-- Document 02, R-2, for C: the sums of a store in lent numbers.
use Rattle.std.specs.Prelude.{ℕ, List, [], ◌∷◌, leb, length}
use Rattle.std.proofs.lemmas.List.Edits.{sets}
use Rattle.line.specs.Refusal.{need, accepted}
use Rattle.store.specs.Store.{events, refusal}
use Rattle.summing.specs.declared.EventSums.{EventSums}
use Rattle.summing.specs.Sums.{sums_of}

-- 7: fewer than three lent numbers; then those of the store
unfoldable pub sums_number : List ℕ → ℕ → ℕ
sums_number s room = need (leb 3 room) 7 (refusal s)

-- P, L, G
abbrev pub three_of : EventSums → List ℕ
three_of v = v.points ∷ v.lost ∷ v.gaps ∷ []

-- the lent numbers after the call: the sums at their start, the others as they were
unfoldable pub sums_result : List ℕ → List ℕ → List ℕ
sums_result s out = accepted (sums_number s (length out)) (sets out 0 (three_of (sums_of (events s)))) out
