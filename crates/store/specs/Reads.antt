-- Document 01, "Track store" and "Refusals": reading gives the events in chain order, here into lent numbers from an offset on.
use Rattle.std.specs.Prelude.{◌≡◌, Result, Ok, Err, List, [], ◌∷◌, ℕ, ◌+◌, ◌*◌, leb, ℤ, pos, length}
use Rattle.std.proofs.lemmas.List.Edits.{sets}
use Rattle.store.specs.Layout.{Event, point, lost}
use Rattle.line.specs.declared.refusal.Refusal.{Refusal}
use Rattle.line.specs.Refusal.{numbered, need, or_next, accepted}
use Rattle.store.specs.Store.{events, refusal}

-- three numbers an event: 1 and a point's re and im, or 2, a lost count and 0
abbrev pub numbers : List Event → List ℤ
numbers [] = []
numbers (point p ∷ es) = pos 1 ∷ p.re ∷ p.im ∷ numbers es
numbers (lost n ∷ es) = pos 2 ∷ pos n ∷ pos 0 ∷ numbers es

-- an offset past the end is 7 at once; "too few" is judged only of a store that 11 to 15 let pass, since another has no events
unfoldable pub read_number : List ℕ → ℕ → ℕ → ℕ
read_number s room offset =
    need (leb offset room) 7 (or_next (refusal s) (need (leb (offset + 3 * length (events s)) room) 7 0))

-- how many events were read
unfoldable pub read_count : List ℕ → ℕ → ℕ → ℕ
read_count s room offset = accepted (read_number s room offset) (length (events s)) 0

-- the lent numbers after the call
unfoldable pub read_result : List ℕ → List ℤ → ℕ → List ℤ
read_result s out offset = accepted (read_number s (length out) offset) (sets out offset (numbers (events s))) out

-- how many events were read, where they were
abbrev pub counts_of : Result ℕ Refusal → List ℕ
counts_of (Err e) = []
counts_of (Ok n) = n ∷ []

pub record Gives (s : List ℕ) (room offset : ℕ) (r : Result ℕ Refusal) : Type 0 where
  pub number : numbered r ≡ read_number s room offset
  pub counts : counts_of r ≡ accepted (read_number s room offset) (read_count s room offset ∷ []) []
