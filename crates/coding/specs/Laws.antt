-- What holds of the tables and of the code: the statements, whose proofs are `table_turns`, `of_pair` and `of_group` of proofs/ModeLaws.
use Rattle.std.specs.Prelude.{ℕ, zero, suc, ◌+◌, ◌*◌, ◌^◌, ◌<◌, ◌≡◌, List, [], ◌∷◌, T, get_or}
use Rattle.line.specs.Mode.{is_mode, width, is_state, next_quadrant, turn, turns, face}
use Rattle.coding.specs.Code.{changes16, coded, group}

-- Y1 Y2 after k turns of 90°, which run 00, 01, 11, 10, 00
abbrev pub quarter_turns : ℕ → ℕ → ℕ
quarter_turns zero y = y
quarter_turns (suc k) y = get_or next_quadrant (quarter_turns k y) 0

-- 001, table 1: the turns of 90° for Q1 Q2 of 00, 01, 10, 11: 90°, 0°, 180°, 270°
unfoldable pub turns_of : List ℕ
turns_of = 1 ∷ 0 ∷ 2 ∷ 3 ∷ []

-- each of its sixteen rows is Y1 Y2 turned so
abbrev pub TableTurns : Type 0
TableTurns = (q y : ℕ) → q < 4 → y < 4 → get_or changes16 (4 * q + y) 0 ≡ quarter_turns (get_or turns_of q 0) y

-- of two states: the code is unaltered by turns, and undone by its inverse; some turn carries one face to the other
pub record OfPair (m x y : ℕ) : Type 0 where
  pub same : group m (face m (turn m x)) (turn m y) ≡ group m (face m x) y
  pub back : coded m (face m x) (group m (face m x) y) ≡ y
  pub fits : group m (face m x) y < 2 ^ width m
  pub meets : (k : ℕ) × (face m y ≡ face m (turns m k x))

-- of a state and a group: the code gives a state, and its inverse the group back
pub record OfGroup (m x g : ℕ) : Type 0 where
  pub lands : T (is_state m (coded m (face m x) g))
  pub read : group m (face m x) (coded m (face m x) g) ≡ g

abbrev pub EachPair : Type 0
EachPair = (m x : ℕ) → T (is_mode m) → T (is_state m x) → (y : ℕ) → T (is_state m y) → OfPair m x y

abbrev pub EachGroup : Type 0
EachGroup = (m x : ℕ) → T (is_mode m) → T (is_state m x) → (g : ℕ) → g < 2 ^ width m → OfGroup m x g
