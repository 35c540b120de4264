-- What the one walk along a store's chain finds: the contracts of `inspect` and of the functions under it.
use Rattle.std.specs.Prelude.{◌≡◌, Bool, true, ◌&&◌, Result, Ok, Err, List, [], ◌∷◌, ℕ, ◌+◌, ◌*◌, ◌≤◌, ◌<◌, eqb, max, length}
use Rattle.store.specs.declared.Trail.{Trail}
use Rattle.store.specs.declared.View.{View}
use Rattle.line.specs.declared.refusal.Refusal.{Refusal}
use Rattle.line.specs.Refusal.{numbered, need, accepted}
use Rattle.line.specs.Table.{All}
use Rattle.store.specs.Chain.{greatest, sum_over}
use Rattle.store.specs.Layout.{count, rec, record_ok, span_of}
use Rattle.store.specs.Store.{chain, last_in, total, chain_ok, records_ok, refusal}

-- the size of a store that number 11 lets pass
pub record Sized (s : List ℕ) : Type 0 where
  pub whole : length s ≡ 32 * count s
  pub least : 2 ≤ count s
  pub most : count s ≤ 2048

-- a walk, and the walk after record i
pub record Passed (s : List ℕ) (i : ℕ) (t r : Trail) : Type 0 where
  pub ends : r.ends ≡ t.ends
  pub fine : r.fine ≡ (t.fine && record_ok (rec s i))
  pub sum : r.sum ≡ t.sum + span_of (rec s i)
  pub room : r.sum < t.sum + 4294967296
  pub last : r.last ≡ i
  pub most : r.greatest ≡ max t.greatest i

-- the walk of the whole chain: where it does not end, nothing else is said
pub record Walked (s : List ℕ) (r : Trail) : Type 0 where
  pub ends : r.ends ≡ chain_ok s
  pub fine : r.ends ≡ true → r.fine ≡ records_ok s
  pub sum : r.ends ≡ true → r.sum ≡ sum_over (λ i. span_of (rec s i)) (chain s)
  pub last : r.ends ≡ true → r.last ≡ last_in s
  pub most : r.ends ≡ true → r.greatest ≡ greatest (chain s)

-- numbers 12 to 15, of a head and of a walk of the chain
abbrev pub sized_number : Bool → Trail → ℕ → ℕ
sized_number head t total = need head 12 (need t.ends 13 (need t.fine 14 (need (eqb total t.sum) 15 0)))

-- what is seen of a store, where it is accepted
abbrev pub views_of : Result View Refusal → List View
views_of (Err e) = []
views_of (Ok v) = v ∷ []

-- the last and the greatest index of a store's chain, and the total
abbrev pub view_of : List ℕ → View
view_of s = record { last = last_in s; greatest = greatest (chain s); total = total s }

pub record Tells (s : List ℕ) (r : Result View Refusal) : Type 0 where
  pub number : numbered r ≡ refusal s
  pub views : views_of r ≡ accepted (refusal s) (view_of s ∷ []) []
  pub small : All (λ v. v.total < 4294967296) (views_of r)

-- v is seen of an accepted store
pub record Viewed (s : List ℕ) (v : View) : Type 0 where
  pub accepted : refusal s ≡ 0
  pub last : v.last ≡ last_in s
  pub most : v.greatest ≡ greatest (chain s)
  pub total_is : v.total ≡ total s
  pub small : (v.last < 2048) × (v.greatest < 2048) × (v.total < 4294967296)
