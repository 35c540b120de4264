-- Document 01, "Track store" and "Refusals": making a store and appending to it. A call gives the lowest number that applies,
-- 0 where none does, and a refusal leaves every byte.
use Rattle.std.specs.Prelude.{Bool, not, ◌&&◌, ◌||◌, cond, List, [], ◌∷◌, ◌++◌, ℕ, ◌+◌, ◌*◌, eqb, ltb, leb, length, replicate}
use Rattle.std.proofs.lemmas.List.Edits.{sets}
use Rattle.line.specs.declared.Point.{Point}
use Rattle.line.specs.Point.{in_range}
use Rattle.octets.specs.Number.{le16, le32}
use Rattle.store.specs.Chain.{last_of, greatest}
use Rattle.store.specs.Layout.{count, rec, write, link_in, total_at, is_points, held, lost_record, point_bytes, point_record}
use Rattle.line.specs.Refusal.{need, or_next, accepted, mode_refusal}
use Rattle.store.specs.Store.{chain, last_in, total, mark, size_ok, refusal}

-- making a store zeroes it and writes record 0
unfoldable pub made : ℕ → ℕ → ℕ → List ℕ
made n mode role = sets (replicate n 0) 0 (mark ++ (mode ∷ role ∷ []))

unfoldable pub make_number : List ℕ → ℕ → ℕ → ℕ
make_number s mode role = or_next (mode_refusal mode role) (need (size_ok s) 11 0)

unfoldable pub make_result : List ℕ → ℕ → ℕ → List ℕ
make_result s mode role = accepted (make_number s mode role) (made (length s) mode role) s

-- the greatest total
abbrev pub most_intervals : ℕ
most_intervals = 4294967295

-- a new record is the greatest index in the chain plus one; 17: that index is N - 1
abbrev pub new_index : List ℕ → ℕ
new_index c = greatest c + 1

abbrev pub is_full : List ℕ → Bool
is_full s = eqb (new_index (chain s)) (count s)

-- the record r, of n intervals, as a new one: written whole, linked from the chain's last record, and the total grown
abbrev pub linked : List ℕ → List ℕ → List ℕ → ℕ → List ℕ
linked s c r n =
    write (write (write s (new_index c) 0 r) (last_of 0 c) (link_in (last_of 0 c)) (le16 (new_index c))) 0 total_at (le32 (total s + n))

-- a lost count always takes a new record
unfoldable pub lost_appended : List ℕ → ℕ → List ℕ
lost_appended s n = linked s (chain s) (lost_record n) n

unfoldable pub lost_number : List ℕ → ℕ → ℕ
lost_number s n =
    need (leb 1 n) 9 (or_next (refusal s) (need (leb (total s + n) most_intervals) 16 (need (not (is_full s)) 17 0)))

unfoldable pub lost_result : List ℕ → ℕ → List ℕ
lost_result s n = accepted (lost_number s n) (lost_appended s n) s

-- whether i is a chain record of kind 1 with fewer than 7 points
unfoldable pub has_room : List ℕ → ℕ → Bool
has_room s i = not (eqb i 0) && is_points (rec s i) && ltb (held (rec s i)) 7

-- one point more in record i, which holds k
abbrev pub grown : List ℕ → ℕ → ℕ → Point → List ℕ
grown s i k p =
    write (write (write s i 3 ((k + 1) ∷ [])) i (4 + 4 * k) (point_bytes p)) 0 total_at (le32 (total s + 1))

-- a point goes into the chain's last record if that has room, else into a new one
unfoldable pub point_appended : List ℕ → Point → List ℕ
point_appended s p =
    cond (has_room s (last_in s)) (grown s (last_in s) (held (rec s (last_in s))) p) (linked s (chain s) (point_record p) 1)

unfoldable pub point_number : List ℕ → Point → ℕ
point_number s p =
    need (in_range p) 8
    (or_next (refusal s) (need (leb (total s + 1) most_intervals) 16 (need (has_room s (last_in s) || not (is_full s)) 17 0)))

unfoldable pub point_result : List ℕ → Point → List ℕ
point_result s p = accepted (point_number s p) (point_appended s p) s
