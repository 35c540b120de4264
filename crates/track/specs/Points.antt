-- Many points appended by one call, all or none. Document 01, "Refusals": the lowest number that applies to the whole.
use Rattle.std.specs.Prelude.{◌≡◌, cond, List, map, ◌↔◌, ℕ, ◌+◌, ◌*◌, ◌-◌, ◌%◌, ◌≤◌, eqb, leb, ℤ, length}
use Rattle.line.specs.Point.{pairs, in_range}
use Rattle.line.specs.Refusal.{need, or_next, accepted}
use Rattle.line.specs.Table.{every}
use Rattle.store.specs.Layout.{Event, point, count, rec, held}
use Rattle.store.specs.Store.{chain, last_in, total, refusal}
use Rattle.track.specs.Append.{most_intervals, new_index, has_room}
use Rattle.track.specs.Calls.{after, taken, EachAccepted}

-- the appends: re and im in turn are a point
abbrev pub point_events : List ℤ → List Event
point_events zs = map point (pairs zs)

-- how many points an accepted store still takes: up to 7 in the chain's last record if that is kind 1 with fewer than 7, and 7 in
-- each new record up to index N - 1
unfoldable pub spaces : List ℕ → ℕ
spaces s = cond (has_room s (last_in s)) (7 - held (rec s (last_in s))) 0 + 7 * (count s - new_index (chain s))

-- 7: the last point lacks its im; 8: of any point; 11 to 15: of the store; 16: of the total after all of them; 17: of any point
unfoldable pub points_number : List ℕ → List ℤ → ℕ
points_number s zs =
    need (eqb (length zs % 2) 0) 7
    (need (every in_range (pairs zs)) 8
    (or_next (refusal s)
    (need (leb (total s + length (pairs zs)) most_intervals) 16 (need (leb (length (pairs zs)) (spaces s)) 17 0))))

-- the appends one after the other, or, refused, every byte as it was
unfoldable pub points_result : List ℕ → List ℤ → List ℕ
points_result s zs = accepted (points_number s zs) (after s (point_events zs)) s

-- the call is accepted just when the count is even, the store is accepted and no single append is refused. The total is a u32.
abbrev pub JustWhen : Type 0
JustWhen =
    (s : List ℕ) (zs : List ℤ) → total s ≤ most_intervals
    → (points_number s zs ≡ 0 ↔ ((length zs % 2 ≡ 0) × (refusal s ≡ 0) × EachAccepted s (point_events zs)))

-- and then all the points are accepted appends
abbrev pub AllTaken : Type 0
AllTaken = (s : List ℕ) (zs : List ℤ) → points_number s zs ≡ 0 → taken s (point_events zs) ≡ point_events zs
