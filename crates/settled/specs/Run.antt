-- Document 02, R-7: "takes settled data bits". From the bytes that `receive_points` wrote, the settled data bits of a run of points, one in
-- a byte.
use Rattle.std.specs.Prelude.{ℕ, suc, ◌/◌, ◌≡◌, Bool, ◌&&◌, cond, List, [], ◌∷◌, Result, Ok, Err, eqb, leb, ltb, length, take, drop}
use Rattle.std.proofs.lemmas.List.Edits.{sets}
use Rattle.line.specs.Mode.{is_mode, width}
use Rattle.line.specs.declared.refusal.Refusal.{Refusal}
use Rattle.line.specs.Refusal.{numbered, answered, need, accepted}
use Rattle.scrambler.specs.Bits.{bits}
use Rattle.scrambler.specs.Scramble.{Datum, unsettled, settled}
use Rattle.scrambler.specs.Group.{marked}
use Rattle.receiver.specs.Calls.{row}
use Rattle.settled.specs.declared.Run.{Run}

-- THE DATA BITS THAT BYTES STAND FOR

-- the data bits of a point's two bytes, as `line_byte` and `plain_byte` of bulk/specs/Block lay them out: w of them, the first plain / 16
-- unsettled; none where the line byte stands for a reference or a gap
abbrev pub data_in : ℕ → ℕ → ℕ → List Datum
data_in w line plain = cond (ltb line 16) (marked (plain / 16) (bits w plain)) []

-- of one point after the other
abbrev pub data_of_bytes : ℕ → List ℕ → List ℕ → List (List Datum)
data_of_bytes w [] ps = []
data_of_bytes w (l ∷ ls) [] = []
data_of_bytes w (l ∷ ls) (p ∷ ps) = data_in w l p ∷ data_of_bytes w ls ps

-- A RUN OF SETTLED DATA BITS, of points given by their data bits

-- the settled ones, in order
abbrev pub settled_ones : List Datum → List ℕ
settled_ones [] = []
settled_ones (unsettled ∷ ds) = settled_ones ds
settled_ones (settled x ∷ ds) = x ∷ settled_ones ds

-- whether a point has a settled data bit; whether it has data bits and all are settled
abbrev pub any_settled : List Datum → Bool
any_settled ds = ltb 0 (length (settled_ones ds))

abbrev pub all_settled : List Datum → Bool
all_settled ds = any_settled ds && eqb (length (settled_ones ds)) (length ds)

-- the run begins at the first point with a settled data bit: how many come before it
abbrev pub before : List (List Datum) → ℕ
before [] = 0
before (d ∷ ds) = cond (any_settled d) 0 (suc (before ds))

-- how many points follow, one after the other, with all their data bits settled: so the run stops at a gap
abbrev pub following : List (List Datum) → ℕ
following [] = 0
following (d ∷ ds) = cond (all_settled d) (suc (following ds)) 0

-- the points of the run that begins with the first point, if there is one
abbrev pub points_from : List (List Datum) → ℕ
points_from [] = 0
points_from (d ∷ ds) = suc (following ds)

unfoldable pub run_points : List (List Datum) → ℕ
run_points ds = points_from (drop (before ds) ds)

-- its points' data bits, and the settled ones of them in order
unfoldable pub run_data : List (List Datum) → List Datum
run_data ds = row (take (run_points ds) (drop (before ds) ds))

unfoldable pub run_bits : List (List Datum) → List ℕ
run_bits ds = settled_ones (run_data ds)

-- THE CALL

-- 1: the mode. 7: another count of bytes in `plain` than in `line`, or fewer lent bytes than the run has bits
unfoldable pub run_refusal : ℕ → List ℕ → List ℕ → ℕ → ℕ
run_refusal m line plain lent =
    need (is_mode m) 1
    (need (eqb (length line) (length plain) && leb (length (run_bits (data_of_bytes (width m) line plain))) lent) 7 0)

-- the point at which the run begins, counted from 0 (the count of points where there is none), its points, and its settled data bits
unfoldable pub run_of : List (List Datum) → Run
run_of ds = record { first = before ds; points = run_points ds; bits = length (run_bits ds) }

-- what is answered, and the lent bytes after it
unfoldable pub run_answer : ℕ → List ℕ → List ℕ → ℕ → Result Run Refusal
run_answer m line plain lent = answered (run_refusal m line plain lent) (run_of (data_of_bytes (width m) line plain))

unfoldable pub run_bytes : ℕ → List ℕ → List ℕ → List ℕ → List ℕ
run_bytes m line plain out =
    accepted (run_refusal m line plain (length out)) (sets out 0 (run_bits (data_of_bytes (width m) line plain))) out

-- what each case of the answer says beside its number: the run, if one is told
abbrev pub runs_of : Result Run Refusal → List Run
runs_of (Err e) = []
runs_of (Ok r) = r ∷ []

pub record Told (m : ℕ) (line plain : List ℕ) (lent : ℕ) (r : Result Run Refusal) : Type 0 where
  pub number_is : numbered r ≡ run_refusal m line plain lent
  pub run_is : runs_of r ≡ accepted (run_refusal m line plain lent) (run_of (data_of_bytes (width m) line plain) ∷ []) []
