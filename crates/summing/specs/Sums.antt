-- Document 02, R-2: what a track's events sum to, P, L and G of the line `sum points P lost L gaps G`.
use Rattle.std.specs.Prelude.{◌≡◌, cond, Result, Ok, Err, List, [], ◌∷◌, ℕ, ◌+◌, ◌≤◌}
use Rattle.line.specs.Point.{is_origin}
use Rattle.line.specs.declared.refusal.Refusal.{Refusal}
use Rattle.line.specs.Refusal.{numbered, accepted}
use Rattle.line.specs.Table.{All}
use Rattle.store.specs.Chain.{sum_over}
use Rattle.store.specs.Layout.{Event, point, lost}
use Rattle.store.specs.Store.{events, refusal}
use Rattle.summing.specs.declared.EventSums.{EventSums}

-- "P counts decided points": each point but one at the origin, which is no state
abbrev pub decided_in : Event → ℕ
decided_in (point p) = cond (is_origin p) 0 1
decided_in (lost n) = 0

-- "L counts lost intervals, a point at the origin being one"
abbrev pub lost_in : Event → ℕ
lost_in (point p) = cond (is_origin p) 1 0
lost_in (lost n) = n

-- "G counts lost records and origin points": a lost record by itself, whatever stands beside it and however much it lost
abbrev pub gaps_in : Event → ℕ
gaps_in (point p) = cond (is_origin p) 1 0
gaps_in (lost n) = 1

-- P, L and G of any events: of a chain, of two, of many stores'
abbrev pub sums_of : List Event → EventSums
sums_of es = record { points = sum_over decided_in es; lost = sum_over lost_in es; gaps = sum_over gaps_in es }

-- the sums of some events and of others, added
abbrev pub plus : EventSums → EventSums → EventSums
plus a b = record { points = a.points + b.points; lost = a.lost + b.lost; gaps = a.gaps + b.gaps }

-- the sums, where the store is not refused
abbrev pub sums_in : Result EventSums Refusal → List EventSums
sums_in (Err e) = []
sums_in (Ok v) = v ∷ []

-- each of the three is a number of 32 bits
abbrev pub Small : EventSums → Type 0
Small v = (v.points ≤ 4294967295) × (v.lost ≤ 4294967295) × (v.gaps ≤ 4294967295)

-- the sums of a store's events, or the number that refuses the store
pub record Tells (s : List ℕ) (r : Result EventSums Refusal) : Type 0 where
  pub number : numbered r ≡ refusal s
  pub sums : sums_in r ≡ accepted (refusal s) (sums_of (events s) ∷ []) []
  pub small : All Small (sums_in r)
