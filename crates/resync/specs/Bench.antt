-- Document 01, "Bench points": the eight of them, one statement that runs through the list.
use Rattle.std.specs.Prelude.{◌≡◌, List, [], ◌∷◌, ℕ, ℤ, pos, negsuc}
use Rattle.line.specs.Table.{All}
use Rattle.line.specs.Mode.{face}
use Rattle.line.specs.Point.{at}
use Rattle.deciding.specs.Decide.{State, decide}
use Rattle.coding.specs.Code.{coded}
use Rattle.training.specs.Bench.{TrainingBench}

-- a mode, a point, and the state that it is decided as
pub record Decided : Type 0 where
  pub mode : ℕ
  pub re : ℤ
  pub im : ℤ
  pub state : ℕ

abbrev pub row : ℕ → ℤ → ℤ → ℕ → Decided
row m x y s = record { mode = m; re = x; im = y; state = s }

abbrev pub AllDecided : List Decided → Type 0
AllDecided ps = All (λ (p : Decided). decide p.mode (at p.re p.im) ≡ State p.state) ps

-- every statement of a list holds
abbrev pub AllHold : List (Type 0) → Type 0
AllHold [] = Unit {0}
AllHold (p ∷ ps) = p × AllHold ps

abbrev pub bench_points : List (Type 0)
bench_points =
    -- 1. Mode 4: (2048, 2047) is 1101; (2047, 2048) is 1110; (0, 1) is 1100; (1, 0) is 0100.
    AllDecided (row 4 (pos 2048) (pos 2047) 0b1101 ∷ row 4 (pos 2047) (pos 2048) 0b1110 ∷ row 4 (pos 0) (pos 1) 0b1100 ∷ row 4 (pos 1) (pos 0) 0b0100 ∷ [])
    -- 2. Mode 3: (1, 2) is C; (-2, 1) is D.
    ∷ AllDecided (row 3 (pos 1) (pos 2) 0b1101 ∷ row 3 (negsuc 1) (pos 1) 0b1001 ∷ [])
    -- 3. Mode 1: (1, 1) is 0; (1, -1) is 6.
    ∷ AllDecided (row 1 (pos 1) (pos 1) 0 ∷ row 1 (pos 1) (negsuc 0) 6 ∷ [])
    -- 4. Mode 2: (1000, 414) is 0; (1000, 415) is 1.
    ∷ AllDecided (row 2 (pos 1000) (pos 414) 0 ∷ row 2 (pos 1000) (pos 415) 1 ∷ [])
    -- 5, 6 and 7: training.
    ∷ TrainingBench
    -- 8. Mode 4, from 1100 with line bits 0000: state 1000.
    ∷ (coded 4 (face 4 0b1100) 0b0000 ≡ 0b1000) ∷ []

abbrev pub BenchPoints : Type 0
BenchPoints = AllHold bench_points
