-- Document 01, "Sender": "Opening writes training, placed as data points are, and hands back a state"; "Refusals" 1, 2, 3 and 7 of it.
use Rattle.std.specs.Prelude.{ℕ, Bool, ◌&&◌, List, Result, leb, ℤ, length}
use Rattle.std.proofs.lemmas.List.Edits.{sets}
use Rattle.line.specs.Mode.{by_mode}
use Rattle.line.specs.declared.refusal.Refusal.{Refusal}
use Rattle.line.specs.Refusal.{answered, need, or_next, accepted, mode_refusal}
use Rattle.training.specs.Coder.{numbers}
use Rattle.training.specs.Training.{train, start, intervals, trained, trained_states}
use Rattle.sender.specs.declared.Sender.{Sender}
use Rattle.sender.specs.Sender.{sender_of, has_room}

-- number 3: "training length not 0 or 1 (modes 1 and 2), not 1280 to 8192 (3 and 4)"; modes 5 and 6 as 1 and 2
unfoldable pub length_ok : ℕ → ℕ → Bool
length_ok m n =
    let v27 : Bool = leb n 1 in
    let v32 : Bool = leb 1280 n && leb n 8192 in
    by_mode m v27 v27 v32 v32

unfoldable pub open_refusal : ℕ → ℕ → ℕ → ℕ → ℕ → ℕ
open_refusal m role n lent offset =
    or_next (mode_refusal m role) (need (length_ok m n) 3 (need (has_room (intervals m n) lent offset) 7 0))

-- "its last state is the reference and the register runs on"
unfoldable pub opened : ℕ → ℕ → ℕ → Sender
opened m role n = sender_of m role (trained (train m role n) 0 (intervals m n) (start m))

-- the numbers of the points of training
unfoldable pub training_numbers : ℕ → ℕ → ℕ → List ℤ
training_numbers m role n = numbers m (trained_states (train m role n) 0 (intervals m n) (start m))

unfoldable pub open_answer : ℕ → ℕ → ℕ → ℕ → ℕ → Result Sender Refusal
open_answer m role n lent offset = answered (open_refusal m role n lent offset) (opened m role n)

unfoldable pub open_numbers : ℕ → ℕ → ℕ → List ℤ → ℕ → List ℤ
open_numbers m role n out offset = accepted (open_refusal m role n (length out) offset) (sets out offset (training_numbers m role n)) out
