-- Document 01, "Track store" and "Refusals": the chain, the events and the total of a store, and numbers 11 to 15.
use Rattle.std.specs.Prelude.{Bool, ◌&&◌, List, [], ◌∷◌, ℕ, ◌%◌, eqb, ltb, leb, length, get_or, drop}
use Rattle.line.specs.Refusal.{need}
use Rattle.line.specs.Table.{every}
use Rattle.line.specs.Mode.{is_mode, is_role}
use Rattle.octets.specs.Number.{u32, zeros}
use Rattle.store.specs.Chain.{walk, last_of, distinct, sum_over, gather}
use Rattle.store.specs.Layout.{Event, count, rec, total_at, next, record_ok, span_of, events_of}

-- the chain that starts in record 0: at most N indexes
unfoldable pub chain : List ℕ → List ℕ
chain s = walk (next s) (count s) (next s 0)

-- the chain's last index, 0 where the chain is empty
abbrev pub last_in : List ℕ → ℕ
last_in s = last_of 0 (chain s)

-- the events in chain order
unfoldable pub events : List ℕ → List Event
events s = gather (λ i. events_of (rec s i)) (chain s)

-- total intervals, as record 0 has it
unfoldable pub total : List ℕ → ℕ
total s = u32 (rec s 0) total_at

-- 11: the size is 32 times an N from 2 to 2048
unfoldable pub size_ok : List ℕ → Bool
size_ok s = eqb (length s % 32) 0 && leb 64 (length s) && leb (length s) 65536

-- the mark "VSYM"
abbrev pub mark : List ℕ
mark = 86 ∷ 83 ∷ 89 ∷ 77 ∷ []

unfoldable pub has_mark : List ℕ → Bool
has_mark r =
    eqb (get_or r 0 0) (get_or mark 0 0) && eqb (get_or r 1 0) (get_or mark 1 0) && eqb (get_or r 2 0) (get_or mark 2 0) && eqb (get_or r 3 0) (get_or mark 3 0)

-- 12: record 0's mark, mode, role and zeros
unfoldable pub head_ok : List ℕ → Bool
head_ok r = has_mark r && is_mode (get_or r 4 0) && is_role (get_or r 4 0) (get_or r 5 0) && zeros (drop 12 r)

-- 13: every index is below N and none is met twice
unfoldable pub chain_ok : List ℕ → Bool
chain_ok s = every (λ i. ltb i (count s)) (chain s) && distinct (chain s)

-- 14: every chain record keeps to the layout, its points in range
unfoldable pub records_ok : List ℕ → Bool
records_ok s = every (λ i. record_ok (rec s i)) (chain s)

-- 15: the total is the chain's sum
unfoldable pub total_ok : List ℕ → Bool
total_ok s = eqb (total s) (sum_over (λ i. span_of (rec s i)) (chain s))

-- the number that a store is refused with; 0: it is accepted
unfoldable pub refusal : List ℕ → ℕ
refusal s =
    need (size_ok s) 11
    (need (head_ok (rec s 0)) 12 (need (chain_ok s) 13 (need (records_ok s) 14 (need (total_ok s) 15 0))))
