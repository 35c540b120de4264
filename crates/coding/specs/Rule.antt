-- 001, table 1, by its rule, which the code computes: the turn of Q1 Q2 is added to the place of Y1 Y2 in the ring.
-- Nobody need believe this file: the law `by_rule` of proofs/ModeLaws says that it is the table, both ways.
use Rattle.std.specs.Prelude.{ℕ, ◌+◌, ◌*◌, ◌-◌, ◌/◌, ◌%◌, ◌<◌, ◌≡◌}
use Rattle.line.specs.Table.{entry}
use Rattle.line.specs.Mode.{by_mode}
use Rattle.coding.specs.Code.{changes16, turn_row}

-- the place of Y1 Y2 in the ring 00, 01, 11, 10: 2·Y1 + (Y1 xor Y2). So also is Y1 Y2 found at a place.
unfoldable pub place : ℕ → ℕ
place y = 2 * (y / 2) + (y / 2 + y % 2) % 2

-- the turns of 90° for Q1 Q2: 2·Q1 + not (Q1 xor Q2). So also is Q1 Q2 found for turns.
unfoldable pub turns_for : ℕ → ℕ
turns_for q = 2 * (q / 2) + (q / 2 + q % 2 + 1) % 2

-- what Q1 Q2 count in a group: in mode 4 they stand before Q3 Q4
unfoldable pub row_unit : ℕ → ℕ
row_unit m = by_mode m 1 1 1 4

-- of two numbers of 2 bits: Y1 Y2 = b turned by Q1 Q2 = a is the table's row, and Q1 Q2 for the turn from a to b the row found in it
pub record ByRule (a b : ℕ) : Type 0 where
  pub turned : place ((turns_for a + place b) % 4) ≡ entry changes16 (4 * a + b)
  pub found : turns_for ((place b + 4 - place a) % 4) ≡ turn_row a b

abbrev pub TableByRule : Type 0
TableByRule = (a b : ℕ) → a < 4 → b < 4 → ByRule a b
