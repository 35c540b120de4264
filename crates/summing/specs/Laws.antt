-- Document 02, R-2: what is proved of the sums. The proofs are in proofs/SumLaws.
use Rattle.std.specs.Prelude.{◌≡◌, List, ◌++◌, ℕ, ◌+◌}
use Rattle.store.specs.Chain.{sum_over}
use Rattle.store.specs.Layout.{Event, rec, span_of}
use Rattle.store.specs.Store.{chain, events, total, refusal}
use Rattle.summing.specs.declared.EventSums.{EventSums}
use Rattle.summing.specs.Sums.{sums_of, plus}

-- "P plus L equals the total in record 0 and the sum over the chain's records", in every accepted store
abbrev pub PlusIsTotal : Type 0
PlusIsTotal = (s : List ℕ) → refusal s ≡ 0
    → let v : EventSums = sums_of (events s) in
    (v.points + v.lost ≡ total s) × (v.points + v.lost ≡ sum_over (λ i. span_of (rec s i)) (chain s))

-- the sums of events are those of their parts, added
abbrev pub PartsAdd : Type 0
PartsAdd = (xs ys : List Event) → sums_of (xs ++ ys) ≡ plus (sums_of xs) (sums_of ys)
