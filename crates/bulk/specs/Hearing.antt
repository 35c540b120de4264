-- What is left of a block's points, and points after a reference: the contracts of the private functions.
use Rattle.std.specs.Prelude.{ℕ, ◌+◌, ◌*◌, ◌-◌, ◌/◌, ◌%◌, ◌^◌, ◌≤◌, min, ◌≡◌, cond, List, map, eqb, ℤ, length, get_or, drop}
use Rattle.line.specs.declared.Point.{Point}
use Rattle.line.specs.Mode.{width, capacity, face}
use Rattle.line.specs.Point.{pairs}
use Rattle.deciding.specs.Sizes.{ring_of, ring_index}
use Rattle.coding.specs.Code.{group}
use Rattle.coding.specs.Rows.{row_index, with_row, Rows}
use Rattle.deciding.specs.declared.SquaredUnits.{SquaredUnits}
use Rattle.scrambler.specs.declared.Descrambled.{Descrambled}
use Rattle.scrambler.specs.Register.{register}
use Rattle.scrambler.specs.Group.{descrambled}
use Rattle.receiver.specs.Reference.{Reference}
use Rattle.std.specs.Prelude.{None as none, Some as some}
use Rattle.receiver.specs.declared.Receiver.{Receiver}
use Rattle.receiver.specs.Receiver.{receiver, point, Answer, state_next}
use Rattle.receiver.specs.Calls.{after, EachAccepted}
use Rattle.bulk.specs.declared.Step.{Step}
use Rattle.bulk.specs.declared.Settled.{Settled}
use Rattle.bulk.specs.Block.{line_byte, plain_byte, distance_number, answers_to, Parts, wrote}

-- one point of a block: the bytes and the number of its answer, and the state after it
abbrev pub step : Answer → Receiver → Step
step a t = record { line = line_byte a; plain = plain_byte a; distance = record { 0 = distance_number a }; next = t }

-- a point decided as y at the distance u, as the code has it
unfoldable pub state_step : Receiver → Reference → ℕ → SquaredUnits → Step
state_step s none y u = record { line = 16; plain = 0; distance = u; next = state_next s none y }
state_step s (some x) y u =
    let g : ℕ = group s.mode (face s.mode x) y in
    let d : Descrambled = descrambled s.mode s.role s.line g in
    record { line = g; plain = 16 * d.unsettled.0 + d.plain; distance = u; next = state_next s (some x) y }

-- the points from number k on
abbrev pub left : List ℤ → ℕ → List Point
left zs k = pairs (drop (2 * k) zs)

-- parts of the same lengths
pub record AsLong (b c : Parts) : Type 0 where
  pub line : length c.line ≡ length b.line
  pub plain : length c.plain ≡ length b.plain
  pub distance : length c.distance ≡ length b.distance

-- from point j on, in the state s and with the lent parts b, to point k, the state t and the parts c: what is left to do is the same
pub record Hearing (s : Receiver) (b : Parts) (zs : List ℤ) (j : ℕ) (t : Receiver) (c : Parts) (k : ℕ) : Type 0 where
  pub on : j ≤ k
  pub place : k ≤ length zs / 2
  pub mode_stays : t.mode ≡ s.mode
  pub as_long : AsLong b c
  pub free : EachAccepted t (map point (left zs k))
  pub state_left : after t (map point (left zs k)) ≡ after s (map point (left zs j))
  pub parts-left : wrote c k (answers_to t (left zs k)) ≡ wrote b j (answers_to s (left zs j))

-- a place for each point in each part
pub record Holds (zs : List ℤ) (b : Parts) : Type 0 where
  pub line : length zs / 2 ≤ length b.line
  pub plain : length zs / 2 ≤ length b.plain
  pub distance : length zs / 2 ≤ length b.distance

-- the points from number k on can be heard in the state s: its mode's rows, none of them refused, a place for each answer
pub record Ready (s : Receiver) (rows : List ℕ) (b : Parts) (zs : List ℤ) (k : ℕ) : Type 0 where
  pub rows_are : Rows s.mode rows
  pub heard : Hearing s b zs k s b k
  pub holds : Holds zs b

-- a receiver i intervals after s, with a reference x and a register of bits n, of which h are held, and the guard's count c
abbrev pub later_at : Receiver → ℕ → ℕ → ℕ → ℕ → ℕ → Receiver
later_at s x n h c i = receiver s.mode s.role (some x) (register n h c) (s.place.0 + i)

-- a point after a reference x and a full register of bits n and the count c, as the code has it: by its ring and its rows
abbrev pub settled_point : ℕ → ℕ → ℕ → ℕ → ℕ → List ℕ → ℤ → ℤ → Settled
settled_point m role x n c rows re im =
    let y : ℕ = get_or (ring_of m) (ring_index m re im) 0 in
    let g : ℕ = with_row m (get_or rows (row_index m x y) 0) y in
    let d : Descrambled = descrambled m role (register n (capacity m) c) g in
    record { state = y; line = g; plain = d.plain; bits = d.next.bits; count = d.next.count.0 }

-- the same where h line bits are held, in a mode without the guard: the byte of its data bits p, and the line bits held after it
abbrev pub plain_at : ℕ → ℕ → ℕ → ℕ
plain_at m h p = cond (eqb h (capacity m)) p (16 * min (capacity m - h) (width m) + p % 2 ^ (width m - min (capacity m - h) (width m)))

abbrev pub held_next : ℕ → ℕ → ℕ
held_next m h = cond (eqb h (capacity m)) h (min (h + width m) (capacity m))
