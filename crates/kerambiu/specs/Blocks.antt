-- Document 02, R-7, for C: what `check` of v41 answers, in the first of the lent bytes; a run of settled data bits in lent bytes, and where it
-- is in lent numbers. Lent bytes and numbers beyond what is written stay as they are.
use Rattle.std.specs.Prelude.{ℕ, cond, List, [], ◌∷◌, leb, length}
use Rattle.std.proofs.lemmas.List.Edits.{sets}
use Rattle.line.specs.Mode.{width}
use Rattle.line.specs.Refusal.{need, or_next, accepted}
use Rattle.settled.specs.declared.Run.{Run}
use Rattle.settled.specs.Run.{data_of_bytes, run_refusal, run_of, run_bytes}
use Rattle.v41.specs.Block.{leaves_nothing, check_refusal}

-- A BLOCK CHECKED

-- 19 and 5 of the bits; 7: no lent byte
unfoldable pub whole_number : List ℕ → List ℕ → ℕ
whole_number bits whole = or_next (check_refusal bits) (need (leb 1 (length whole)) 7 0)

-- 1 for a block that is accepted, 0 for one that is not
unfoldable pub whole_result : List ℕ → List ℕ → List ℕ
whole_result bits whole = accepted (whole_number bits whole) (sets whole 0 (cond (leaves_nothing bits) 1 0 ∷ [])) whole

-- A RUN OF SETTLED DATA BITS

-- 1 of the mode; 7 of the bytes; 7: fewer than three lent numbers
unfoldable pub run_number : ℕ → List ℕ → List ℕ → List ℕ → List ℕ → ℕ
run_number m line plain out run = or_next (run_refusal m line plain (length out)) (need (leb 3 (length run)) 7 0)

unfoldable pub run_out : ℕ → List ℕ → List ℕ → List ℕ → List ℕ → List ℕ
run_out m line plain out run = accepted (run_number m line plain out run) (run_bytes m line plain out) out

-- the point at which the run begins, its points, its bits
abbrev pub three_of_run : Run → List ℕ
three_of_run r = r.first ∷ r.points ∷ r.bits ∷ []

unfoldable pub run_result : ℕ → List ℕ → List ℕ → List ℕ → List ℕ → List ℕ
run_result m line plain out run =
    accepted (run_number m line plain out run) (sets run 0 (three_of_run (run_of (data_of_bytes (width m) line plain)))) run
