-- How the code finds a group: by its row, of which a mode has 16, so that a caller that looks up many finds them once.
-- Nobody need believe this file: the laws `group_by_row` and `looked_up` of proofs/RowLaws say that it is `group`.
use Rattle.std.specs.Prelude.{ℕ, ◌+◌, ◌*◌, ◌/◌, ◌%◌, List, eqb}
use Rattle.line.specs.Table.{entry, first_row, Tabled}
use Rattle.line.specs.Mode.{by_mode, quadrant}
use Rattle.coding.specs.Code.{changes4, changes8, eighths, turn_row}

-- the index of the row that leads from the state x to the state s: the turns of 45° between them, or both quadrants
unfoldable pub row_index : ℕ → ℕ → ℕ → ℕ
row_index m x s = by_mode m (eighths x s) (eighths x s) (4 * quadrant x + quadrant s) (4 * quadrant x + quadrant s)

-- the row at an index; in mode 4 times 4, since Q1 Q2 stand before Q3 Q4
unfoldable pub row_at : ℕ → ℕ → ℕ
row_at m i =
    by_mode m (first_row (λ g. eqb (entry changes4 g) (i % 8 / 2)) 3) (first_row (λ g. eqb (entry changes8 g) (i % 8)) 7)
    (turn_row (i / 4 % 4) (i % 4)) (4 * turn_row (i / 4 % 4) (i % 4))

-- the group of a row and a state: in mode 4 with the state's Q3 Q4
unfoldable pub with_row : ℕ → ℕ → ℕ → ℕ
with_row m row s = by_mode m row row row (row / 4 % 4 * 4 + s % 4)

-- the rows of a mode, by their indexes
abbrev pub Rows : ℕ → List ℕ → Type 0
Rows m rows = Tabled 16 (row_at m) 0 rows
