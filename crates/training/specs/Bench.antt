-- Document 01, "Bench points", 5 to 7: training; and what the guard has counted after it (document 02, R-6).
use Rattle.std.specs.Prelude.{ℕ, ◌+◌, ◌-◌, ◌≡◌, List, [], ◌∷◌, ◌++◌, replicate}
use Rattle.line.specs.Mode.{face}
use Rattle.coding.specs.Code.{eighths, group}
use Rattle.training.specs.declared.Coder.{Coder}
use Rattle.training.specs.Training.{reversals, changes, A, C, train, start, intervals, trained, trained_states}

-- what a rule gives for each state and the one before it
abbrev pub between : (ℕ → ℕ → ℕ) → ℕ → List ℕ → List ℕ
between f r [] = []
between f r (s ∷ ss) = f r s ∷ between f s ss

-- the same of n intervals of a training from the i-th on
abbrev pub in_training : (ℕ → ℕ → ℕ) → ℕ → ℕ → ℕ → ℕ → ℕ → List ℕ
in_training f m role length i n =
    let c : Coder = trained (train m role length) 0 i (start m) in
    between f c.reference (trained_states (train m role length) i n c)

-- the states of n intervals from the third segment of V.32 on
abbrev pub third : ℕ → ℕ → ℕ → ℕ → List ℕ
third m role length n = in_training (λ r s. s) m role length 272 n

-- 5 and 6, of a mode and a length choice: the turns, in eighths, at both ends of the middle, and the line bits of the points after it
pub record MiddleBench (m choice : ℕ) (last : List ℕ) : Type 0 where
  pub starts : in_training eighths m 0 choice (reversals choice) 7 ≡ 0 ∷ 4 ∷ 4 ∷ 4 ∷ 4 ∷ 4 ∷ 0 ∷ []
  pub ends : in_training eighths m 0 choice (reversals choice + changes choice - 4) 4 ≡ 4 ∷ 4 ∷ 0 ∷ 0 ∷ []
  pub ones : in_training (λ r. group m (face m r)) m 0 choice (reversals choice + changes choice) 8 ≡ last

pub record EitherLength (m : ℕ) (last : List ℕ) : Type 0 where
  pub choice_0 : MiddleBench m 0 last
  pub choice_1 : MiddleBench m 1 last

-- 7, of a mode and any length: the states from the third segment on
pub record ThirdBench (m : ℕ) : Type 0 where
  pub role_0 : (length : ℕ) → third m 0 length 12 ≡ replicate 9 C ++ replicate 3 A
  pub role_1 : (length : ℕ) → third m 1 length 10 ≡ C ∷ C ∷ C ∷ A ∷ A ∷ C ∷ C ∷ C ∷ A ∷ A ∷ []

pub record TrainingBench : Type 0 where
  pub mode_1 : EitherLength 1 (0b10 ∷ 0b01 ∷ 0b10 ∷ 0b10 ∷ 0b10 ∷ 0b10 ∷ 0b00 ∷ 0b00 ∷ [])
  pub mode_2 : EitherLength 2 (0b100 ∷ 0b110 ∷ 0b101 ∷ 0b010 ∷ 0b000 ∷ 0b000 ∷ 0b111 ∷ 0b111 ∷ [])
  pub mode_3 : ThirdBench 3
  pub mode_4 : ThirdBench 4

-- the count with which training of a length leaves a mode with the guard
abbrev pub count_after_training : ℕ → ℕ → ℕ
count_after_training m choice = (trained (train m 0 choice) 0 (intervals m choice) (start m)).line.count.0

-- in mode 5 it is 3, in mode 6 it is 0, of both lengths; and the points of the two modes are those of 1 and 2 but for the last 8, of which
-- these are the line bits
pub record GuardBench : Type 0 where
  pub mode_5 : EitherLength 5 (0b10 ∷ 0b01 ∷ 0b10 ∷ 0b10 ∷ 0b10 ∷ 0b10 ∷ 0b00 ∷ 0b00 ∷ [])
  pub mode_6 : EitherLength 6 (0b100 ∷ 0b110 ∷ 0b101 ∷ 0b010 ∷ 0b000 ∷ 0b000 ∷ 0b111 ∷ 0b111 ∷ [])
  pub counts_5 : (count_after_training 5 0 ≡ 3) × (count_after_training 5 1 ≡ 3)
  pub counts_6 : (count_after_training 6 0 ≡ 0) × (count_after_training 6 1 ≡ 0)
