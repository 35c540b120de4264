-- Document 01, "Track store": N records of 32 bytes, and what a chain record holds.
use Rattle.std.specs.Prelude.{Bool, ◌&&◌, cond, List, [], ◌∷◌, ◌++◌, ℕ, zero, suc, ◌+◌, ◌*◌, ◌/◌, eqb, leb, length, get_or, take, drop, replicate}
use Rattle.std.proofs.lemmas.List.Edits.{sets}
use Rattle.line.specs.declared.Point.{Point}
use Rattle.line.specs.Point.{at, in_range}
use Rattle.octets.specs.Number.{u16, u32, le32, i16, le_i16, zeros}

-- N
abbrev pub count : List ℕ → ℕ
count s = length s / 32

-- record i; the store with vs written into record i from its byte o on
abbrev pub rec : List ℕ → ℕ → List ℕ
rec s i = take 32 (drop (32 * i) s)

abbrev pub write : List ℕ → ℕ → ℕ → List ℕ → List ℕ
write s i o vs = sets s (32 * i + o) vs

-- where record 0 holds a chain's first index and its total intervals
abbrev pub first_at : ℕ
first_at = 6

abbrev pub total_at : ℕ
total_at = 8

-- where record i holds the next index
abbrev pub link_in : ℕ → ℕ
link_in zero = first_at
link_in (suc i) = 0

unfoldable pub next : List ℕ → ℕ → ℕ
next s i = u16 (rec s i) (link_in i)

-- each point and each lost count is an event of its own; a point at the origin is a point
pub data Event : Type 0 where
  point : Point → Event
  lost : ℕ → Event

-- an event's intervals
abbrev pub intervals : Event → ℕ
intervals (point p) = 1
intervals (lost n) = n

-- kind (byte 2), count (byte 3)
abbrev pub kind : List ℕ → ℕ
kind r = get_or r 2 0

abbrev pub held : List ℕ → ℕ
held r = get_or r 3 0

abbrev pub is_points : List ℕ → Bool
is_points r = eqb (kind r) 1

-- kind 1: points of re, im from byte 4; here the n points at the start of bs
abbrev pub point_at : List ℕ → Point
point_at bs = at (i16 bs 0) (i16 bs 2)

abbrev pub points : List ℕ → ℕ → List Event
points bs zero = []
points bs (suc n) = point (point_at bs) ∷ points (drop 4 bs) n

-- each in range, and the bytes after them zero
abbrev pub points_ok : List ℕ → ℕ → Bool
points_ok bs zero = zeros bs
points_ok bs (suc n) = in_range (point_at bs) && points_ok (drop 4 bs) n

-- kind 1: count 1 to 7; kind 2: count 0, lost intervals (u32 at 4, at least 1); unused bytes are zero
unfoldable pub record_ok : List ℕ → Bool
record_ok r =
    cond (is_points r)
    (leb (held r) 7 && leb 1 (held r) && points_ok (drop 4 r) (held r))
    (eqb (kind r) 2 && eqb (held r) 0 && leb 1 (u32 r 4) && zeros (drop 8 r))

-- a record's intervals, and its events
unfoldable pub span_of : List ℕ → ℕ
span_of r = cond (is_points r) (held r) (u32 r 4)

unfoldable pub events_of : List ℕ → List Event
events_of r = cond (is_points r) (points (drop 4 r) (held r)) (lost (u32 r 4) ∷ [])

-- a new record, whole, at the end of its chain: one lost count, one point
abbrev pub lost_record : ℕ → List ℕ
lost_record n = 0 ∷ 0 ∷ 2 ∷ 0 ∷ le32 n ++ replicate 24 0

abbrev pub point_bytes : Point → List ℕ
point_bytes p = le_i16 p.re ++ le_i16 p.im

abbrev pub point_record : Point → List ℕ
point_record p = 0 ∷ 0 ∷ 1 ∷ 1 ∷ point_bytes p ++ replicate 24 0
