-- Document 01, "Modes, states, turns": the table of modes, the roles, the states of a mode and their turns. Document 02, R-6: modes 5 and
-- 6, which are 1 and 2 with the guard.
use Rattle.std.specs.Prelude.{ℕ, zero, suc, ◌+◌, ◌*◌, ◌-◌, ◌/◌, ◌%◌, Bool, ◌&&◌, cond, List, [], ◌∷◌, leb, ltb, get_or}
use Rattle.line.specs.Table.{member, below}

-- the column of the table that a mode reads: R-6, "Modes 5 and 6 are modes 1 and 2 with it", so that all that they share with these is
-- said once; a number that is no mode reads as the nearest mode
abbrev pub column : ℕ → ℕ
column m = cond (leb m 4) m (cond (leb m 5) 1 2)

-- one value for each column
abbrev pub by_mode : {A : Type 0} → ℕ → A → A → A → A → A
by_mode m a b c d = get_or (a ∷ b ∷ c ∷ d ∷ []) (column m - 1) d

-- mode 1 is V.27 ter at 2400 bit/s, 2 the same at 4800, 3 is V.32 at 4800, 4 uncoded V.32 at 9600; 5 and 6 are 1 and 2 with the guard
unfoldable pub is_mode : ℕ → Bool
is_mode m = leb 1 m && leb m 6

-- the modes with the guard against repeated patterns (000, 2.4)
unfoldable pub guarded : ℕ → Bool
guarded m = ltb 4 m

-- w: the line bits in a point
unfoldable pub width : ℕ → ℕ
width m = by_mode m 2 3 2 4

-- R: the scrambler's length: line bits a and R back are xored
unfoldable pub far_tap : ℕ → ℕ
far_tap m = by_mode m 7 7 23 23

-- the line bits that a register keeps: R, with the guard 12 (R-6: "The register holds 12 bits in these modes, and number 4 reads 12 for R")
unfoldable pub capacity : ℕ → ℕ
capacity m = cond (guarded m) 12 (far_tap m)

-- step: the smallest turn that carries the states onto themselves, in degrees
unfoldable pub step : ℕ → ℕ
step m = by_mode m 90 45 90 90

-- role 0 is the calling sender, 1 the answering one; modes 1 and 2 have role 0 only
unfoldable pub is_role : ℕ → ℕ → Bool
is_role m role = ltb role (by_mode m 1 1 2 2)

-- V.27 ter states are 0 to 7, at 45° times the number, even ones only in mode 1.
-- V.32 states are the bits Y1 Y2 Q3 Q4 read as a number; mode 3 uses A = 0001, B = 0101, C = 1101, D = 1001.
unfoldable pub states : ℕ → List ℕ
states m = by_mode m (0 ∷ 2 ∷ 4 ∷ 6 ∷ []) (below 8) (1 ∷ 5 ∷ 13 ∷ 9 ∷ []) (below 16)

unfoldable pub is_state : ℕ → ℕ → Bool
is_state m s = member s (states m)

-- the quadrant of a V.32 state: its Y1 Y2
unfoldable pub quadrant : ℕ → ℕ
quadrant s = s / 4 % 4

-- +90° of Y1 Y2 runs 00, 01, 11, 10, 00
unfoldable pub next_quadrant : List ℕ
next_quadrant = 1 ∷ 3 ∷ 0 ∷ 2 ∷ []

-- one step of the mode: 45° adds 1 to a V.27 ter state, 7 going to 0; 90° turns the quadrant of a V.32 state.
-- That this is the state sent at the turned point is `SentTurned` of specs/Point.
unfoldable pub turn : ℕ → ℕ → ℕ
turn m s =
    by_mode m ((s + 2) % 8) ((s + 1) % 8) (4 * get_or next_quadrant (quadrant s) 0 + s % 4) (4 * get_or next_quadrant (quadrant s) 0 + s % 4)

-- k steps of the mode
abbrev pub turns : ℕ → ℕ → ℕ → ℕ
turns m zero s = s
turns m (suc k) s = turn m (turns m k s)

-- steps in a turn of 90°, and in a whole turn
unfoldable pub quarter_steps : ℕ → ℕ
quarter_steps m = 90 / step m

unfoldable pub whole_steps : ℕ → ℕ
whole_steps m = 360 / step m

-- what of a state the bits after it depend on: all of it, in mode 4 its quadrant
unfoldable pub face : ℕ → ℕ → ℕ
face m s = by_mode m s s s (quadrant s)
