-- Document 01, "Differential code". A group of line bits is a number, the leftmost bit, first in time, highest.
use Rattle.std.specs.Prelude.{ℕ, ◌+◌, ◌*◌, ◌-◌, ◌/◌, ◌%◌, List, [], ◌∷◌, eqb}
use Rattle.line.specs.Table.{entry, first_row}
use Rattle.line.specs.Mode.{by_mode, quadrant}

-- 000, table 2: the change of the bits 00, 01, 10, 11 in turns of 90°
unfoldable pub changes4 : List ℕ
changes4 = 0 ∷ 1 ∷ 3 ∷ 2 ∷ []

-- 000, table 1: the change of the bits 000, 001, .. 111 in turns of 45°
unfoldable pub changes8 : List ℕ
changes8 = 1 ∷ 0 ∷ 2 ∷ 3 ∷ 6 ∷ 7 ∷ 5 ∷ 4 ∷ []

-- 001, table 1: the new Y1 Y2 of the rows Q1 Q2 and, within them, the previous Y1 Y2
unfoldable pub changes16 : List ℕ
changes16 = 1 ∷ 3 ∷ 0 ∷ 2 ∷ 0 ∷ 1 ∷ 2 ∷ 3 ∷ 3 ∷ 2 ∷ 1 ∷ 0 ∷ 2 ∷ 0 ∷ 3 ∷ 1 ∷ []

-- the state that a group gives after a reference of face q; in mode 4 the group is Q1 Q2 Q3 Q4
unfoldable pub coded : ℕ → ℕ → ℕ → ℕ
coded m q g =
    by_mode m ((q + 2 * entry changes4 g) % 8) ((q + entry changes8 g) % 8)
    (4 * entry changes16 (4 * g + quadrant q) + 1)
    (4 * entry changes16 (4 * (g / 4) + q % 4) + g % 4)

-- the turns of 45° from one V.27 ter state to another
unfoldable pub eighths : ℕ → ℕ → ℕ
eighths q s = (s % 8 + 8 - q % 8) % 8

-- the row of 001's table 1 that leads from Y1 Y2 to Y1 Y2
unfoldable pub turn_row : ℕ → ℕ → ℕ
turn_row y z = first_row (λ g. eqb (entry changes16 (4 * g + y)) z) 3

-- the group that the same tables give back for the state s after a reference of face q
unfoldable pub group : ℕ → ℕ → ℕ → ℕ
group m q s =
    by_mode m (first_row (λ g. eqb (entry changes4 g) (eighths q s / 2)) 3) (first_row (λ g. eqb (entry changes8 g) (eighths q s)) 7)
    (turn_row (quadrant q) (quadrant s)) (4 * turn_row (q % 4) (quadrant s) + s % 4)
