-- The records of a store's chain, as the iterator `ChainRecords` gives them.
use Rattle.std.specs.Prelude.{true, ◌≡◌, List, [], ◌∷◌, ◌++◌, ℕ, map}
use Rattle.store.specs.Chain.{walk, ends}
use Rattle.store.specs.Layout.{Event, count, rec, next, events_of}
use Rattle.store.specs.Store.{size_ok, chain}

-- the records from index i on, and all of them, in chain order
unfoldable pub records_from : List ℕ → ℕ → List (List ℕ)
records_from s i = map (rec s) (walk (next s) (count s) i)

unfoldable pub records : List ℕ → List (List ℕ)
records s = map (rec s) (chain s)

-- the events of records, one after the other
abbrev pub events_in : List (List ℕ) → List Event
events_in [] = []
events_in (r ∷ rs) = events_of r ++ events_in rs

-- from index i on the chain ends, and lies in the store
pub record OnChain (s : List ℕ) (i : ℕ) : Type 0 where
  pub size : size_ok s ≡ true
  pub ending : ends (next s) (count s) (count s) i ≡ true
