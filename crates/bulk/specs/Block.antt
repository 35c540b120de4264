-- Many points by one call: as one call of a single point after the other, all or none. Points are numbers, re and im in turn, in units
-- or, since document 02's R-3, in levels. An answer is two bytes and, since R-1, a number for each point, in three lent parts; what is
-- lent beyond them stays.
use Rattle.std.specs.Prelude.{ℕ, ◌+◌, ◌*◌, ◌/◌, ◌%◌, ◌≤◌, ◌≡◌, Bool, true, ◌&&◌, List, map, ◌↔◌, T, eqb, leb, ℤ, Float, length, Result, Ok, Err}
use Rattle.std.proofs.lemmas.List.Edits.{sets}
use Rattle.line.specs.declared.Point.{Point}
use Rattle.line.specs.Point.{pairs, in_range, coordinates_in}
use Rattle.line.specs.Table.{every}
use Rattle.levels.specs.Levels.{is_finite, rounded}
use Rattle.line.specs.declared.refusal.Refusal.{Refusal}
use Rattle.line.specs.Refusal.{numbered, answered, need, or_next, accepted}
use Rattle.scrambler.specs.Bits.{value}
use Rattle.scrambler.specs.Group.{plain_of, unsettled_in}
use Rattle.receiver.specs.declared.Receiver.{Receiver}
use Rattle.receiver.specs.Receiver.{point, Answer, refused, reference, decoded, lost, state_refusal, has_room}
use Rattle.receiver.specs.Calls.{after, EachAccepted, heard, events, answers}

-- WHAT IS GIVEN

-- the coordinates, in units; and whether each of them was finite as it came
pub record Given : Type 0 where
  pub numbers : List ℤ
  pub finite : Bool

-- whole numbers are
abbrev pub in_units : List ℤ → Given
in_units zs = record { numbers = zs; finite = true }

-- singles become whole numbers
abbrev pub in_levels : List Float → Given
in_levels vs = record { numbers = map rounded vs; finite = every is_finite vs }

-- re and im in turn
abbrev pub points_of : Given → List Point
points_of g = pairs g.numbers

-- WHAT IS WRITTEN FOR A POINT

-- the w line bits as a number, the first in time highest; 16 for a point that becomes the reference, 17 for the origin, a gap of one.
-- A refused point has none, and stands in no accepted block.
abbrev pub line_byte : Answer → ℕ
line_byte (refused n) = 0
line_byte (reference d) = 16
line_byte (decoded ls ds d) = value ls
line_byte (lost n) = 17

-- the data bits as a number, the first in time highest and an unsettled one 0, plus 16 times how many are unsettled: the first ones.
-- 0 for a reference and for the origin, which have no data bits.
abbrev pub plain_byte : Answer → ℕ
plain_byte (refused n) = 0
plain_byte (reference d) = 0
plain_byte (decoded ls ds d) = 16 * unsettled_in ds + plain_of ds
plain_byte (lost n) = 0

-- the squared distance, of a reference too; 0 for the origin, which has none
abbrev pub distance_number : Answer → ℕ
distance_number (refused n) = 0
distance_number (reference d) = d
distance_number (decoded ls ds d) = d
distance_number (lost n) = 0

-- the answers of the single calls
abbrev pub answers_to : Receiver → List Point → List Answer
answers_to s ps = answers (heard s (map point ps))

-- the three lent parts
pub record Parts : Type 0 where
  pub line : List ℕ
  pub plain : List ℕ
  pub distance : List ℕ

abbrev pub parts : List ℕ → List ℕ → List ℕ → Parts
parts l p d = record { line = l; plain = p; distance = d }

-- the parts with the answers written from place k on
abbrev pub wrote : Parts → ℕ → List Answer → Parts
wrote b k xs = parts (sets b.line k (map line_byte xs)) (sets b.plain k (map plain_byte xs)) (sets b.distance k (map distance_number xs))

-- how much is lent: bytes for line bits, bytes for data bits, numbers for distances
pub record Lent : Type 0 where
  pub line : ℕ
  pub plain : ℕ
  pub distance : ℕ

abbrev pub sizes : Parts → Lent
sizes b = record { line = length b.line; plain = length b.plain; distance = length b.distance }

-- THE REFUSALS

-- number 7: an im to each re, and in each part a place for each point
unfoldable pub lent_ok : Given → Lent → Bool
lent_ok g n =
    let points : ℕ = length (points_of g) in
    ((eqb (length g.numbers % 2) 0 && leb points n.line) && leb points n.plain) && leb points n.distance

-- "the lowest that applies": of the state, of what is lent, of any of the points, of the place after all of them. R-3: "It refuses a NaN
-- or infinite coordinate or power with 18, after 7 and before 8."
unfoldable pub block_refusal : Receiver → Given → Lent → ℕ
block_refusal s g n =
    or_next (state_refusal s)
    (need (lent_ok g n) 7
    (need g.finite 18
    (need (every in_range (points_of g)) 8
    (need (has_room s (length (points_of g))) 16 0))))

-- the same as the code finds it, number by number

-- the number that refuses one of the coordinates
unfoldable pub coordinate_fault : Given → ℕ
coordinate_fault g = need g.finite 18 (need (coordinates_in g.numbers) 8 0)

-- so many numbers are points, and each part has a place for each
unfoldable pub places_ok : ℕ → Lent → Bool
places_ok count n = ((eqb (count % 2) 0 && leb (count / 2) n.line) && leb (count / 2) n.plain) && leb (count / 2) n.distance

-- the number of a block of so many numbers, of which f refuses one
unfoldable pub fault_of : Receiver → ℕ → ℕ → Lent → ℕ
fault_of s count f n = or_next (state_refusal s) (need (places_ok count n) 7 (or_next f (need (has_room s (count / 2)) 16 0)))

abbrev pub FoundSo : Type 0
FoundSo = (s : Receiver) (g : Given) (n : Lent) → fault_of s (length g.numbers) (coordinate_fault g) n ≡ block_refusal s g n

-- THE CALL

-- the state that a later call gets
abbrev pub state_of : Receiver → Result Receiver Refusal → Receiver
state_of s (Err e) = s
state_of s (Ok t) = t

-- what each case of the answer says: a refusal's number, 0 for none; and that state
pub record Told (s : Receiver) (g : Given) (n : Lent) (r : Result Receiver Refusal) : Type 0 where
  pub number_is : numbered r ≡ block_refusal s g n
  pub state_is : state_of s r ≡ accepted (block_refusal s g n) (after s (map point (points_of g))) s

-- the refusal alone, or the state after the single calls
unfoldable pub block : Receiver → Given → Lent → Result Receiver Refusal
block s g n = answered (block_refusal s g n) (after s (map point (points_of g)))

-- the lent parts after it: a refusal leaves them
unfoldable pub parts_after : Receiver → Given → Parts → Parts
parts_after s g b = accepted (block_refusal s g (sizes b)) (wrote b 0 (answers_to s (points_of g))) b

-- ONE BY ONE

-- a block is accepted just when the state passes, the lent parts suffice, all is finite and no single call is refused. The place is a u32.
abbrev pub JustWhen : Type 0
JustWhen =
    (s : Receiver) (g : Given) (n : Lent) → s.place.0 ≤ 4294967295
    → (block_refusal s g n ≡ 0 ↔ ((state_refusal s ≡ 0) × T (lent_ok g n) × T g.finite × EachAccepted s (map point (points_of g))))

-- all points of an accepted block are heard, in order: so each has its two bytes and its number, those of its answer
abbrev pub AllHeard : Type 0
AllHeard = (s : Receiver) (g : Given) (n : Lent) → block_refusal s g n ≡ 0 → events (heard s (map point (points_of g))) ≡ map point (points_of g)
