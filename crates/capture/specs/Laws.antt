-- What holds of captures: the statements, whose proofs are `in_blocks` and `rest_short` of proofs/BlockLaws, and `reads_back` and
-- `point_numbers` of proofs/BackLaws.
use Rattle.std.specs.Prelude.{◌≡◌, true, List, [], ◌++◌, map, ℕ, ◌%◌, ◌≤◌, ◌<◌, ℤ, length}
use Rattle.line.specs.Point.{pairs, in_range}
use Rattle.line.specs.Table.{All}
use Rattle.store.specs.Layout.{Event, point, lost}
use Rattle.capture.specs.Capture.{captured, number_bytes, events_in, rest_in}

-- a capture that is read in blocks, what is left of one put in front of the next, is read as the whole
pub record Joined (a b : List ℕ) : Type 0 where
  pub events : events_in (a ++ b) ≡ events_in a ++ events_in (rest_in a ++ b)
  pub rest : rest_in (a ++ b) ≡ rest_in (rest_in a ++ b)

abbrev pub InBlocks : Type 0
InBlocks = (a b : List ℕ) → Joined a b

-- so that a reader carries fewer than 8 bytes from one block to the next
abbrev pub RestShort : Type 0
RestShort = (bs : List ℕ) → length (rest_in bs) < 8

-- an event that a store can hold
abbrev pub Storable : Event → Type 0
Storable (point p) = in_range p ≡ true
Storable (lost n) = (1 ≤ n) × (n ≤ 4294967295)

-- what is written is read back, and nothing is left
pub record Returned (es : List Event) : Type 0 where
  pub events : events_in (captured es) ≡ es
  pub rest : rest_in (captured es) ≡ []

abbrev pub ReadsBack : Type 0
ReadsBack = (es : List Event) → All Storable es → Returned es

-- numbers of points, re and im in turn, are written as the capture of these points
abbrev pub PointNumbers : Type 0
PointNumbers = (zs : List ℤ) → length zs % 2 ≡ 0 → number_bytes zs ≡ captured (map point (pairs zs))
