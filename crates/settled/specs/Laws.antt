-- What is handed over: the statements, whose proofs are `any_bytes` of proofs/RunLaws, `written_bytes` of proofs/AnswerLaws and `worked`
-- of proofs/Example.
use Rattle.std.specs.Prelude.{ℕ, ◌+◌, ◌*◌, ◌<◌, ◌≡◌, ◌⊎◌, List, [], ◌∷◌, ◌++◌, Ok, Err, map, length, take, drop, get_or, replicate}
use Rattle.line.specs.Table.{All}
use Rattle.line.specs.Mode.{width}
use Rattle.line.specs.declared.Point.{Point}
use Rattle.scrambler.specs.Scramble.{Datum, unsettled, settled}
use Rattle.receiver.specs.declared.Receiver.{Receiver}
use Rattle.receiver.specs.Receiver.{Answer, lost}
use Rattle.receiver.specs.Calls.{data_of, row}
use Rattle.bulk.specs.Block.{Given, points_of, answers_to, Parts, sizes, block_refusal, parts_after}
use Rattle.line.specs.declared.refusal.Refusal.TheVariants.{Lent}
use Rattle.settled.specs.Run.{data_of_bytes, settled_ones, before, run_points, run_data, run_bits, run_answer, run_bytes}

-- of any bytes: no point before the run has a settled data bit; each point of the run has its w data bits, so that none of them is a
-- reference or a gap; and these data bits are some unsettled ones, fewer than w, and then those handed over: none is missing between two of
-- them, and no unsettled one is handed over
pub record Consecutive (w : ℕ) (line plain : List ℕ) : Type 0 where
  pub none_before : All (λ (d : List Datum). settled_ones d ≡ []) (take (before (data_of_bytes w line plain)) (data_of_bytes w line plain))
  pub w_each : length (run_data (data_of_bytes w line plain)) ≡ w * run_points (data_of_bytes w line plain)
  pub unsettled_first : ℕ
  pub fewer : (unsettled_first < w) ⊎ (unsettled_first ≡ 0)
  pub then_settled : run_data (data_of_bytes w line plain) ≡ replicate unsettled_first unsettled ++ map settled (run_bits (data_of_bytes w line plain))

abbrev pub AnyBytes : Type 0
AnyBytes = (w : ℕ) (line plain : List ℕ) → Consecutive w line plain

-- the answer at a place of a list; past its end none is asked for
abbrev pub answer_at : List Answer → ℕ → Answer
answer_at xs k = get_or xs k (lost 0)

-- of the bytes of points that a receiver accepted: they stand for the data bits of the answers; what is handed over are the settled data
-- bits of the answers to the run's points, in order; and after the run comes a gap or nothing more
pub record OfAnswers (s : Receiver) (ps : List Point) (line plain : List ℕ) : Type 0 where
  pub stand_for : data_of_bytes (width s.mode) line plain ≡ map data_of (answers_to s ps)
  pub in_order :
      let ds : List (List Datum) = map data_of (answers_to s ps) in
      run_bits (data_of_bytes (width s.mode) line plain) ≡ settled_ones (row (map data_of (take (run_points ds) (drop (before ds) (answers_to s ps)))))
  pub stops :
      let ds : List (List Datum) = map data_of (answers_to s ps) in
      (before ds + run_points ds ≡ length ps) ⊎ (answer_at (answers_to s ps) (before ds + run_points ds) ≡ lost 1)

-- so it is of the bytes at the front of the lent ones after `receive_points`, as many as there are points
abbrev pub WrittenBytes : Type 0
WrittenBytes =
    (s : Receiver) (g : Given) (b : Parts) → block_refusal s g (sizes b) ≡ 0
    → OfAnswers s (points_of g) (take (length (points_of g)) (parts_after s g b).line) (take (length (points_of g)) (parts_after s g b).plain)

-- worked bytes of mode 3: a reference, a point without a settled bit, one with its second bit settled, one with both, and the origin. What
-- is handed over are three bits of two points, the first of them point 2, into five lent bytes.
pub record Worked : Type 0 where
  pub told : run_answer 3 (16 ∷ 1 ∷ 2 ∷ 3 ∷ 17 ∷ []) (0 ∷ 32 ∷ 17 ∷ 2 ∷ 0 ∷ []) 5 ≡ Ok (record { first = 2; points = 2; bits = 3 })
  pub written : run_bytes 3 (16 ∷ 1 ∷ 2 ∷ 3 ∷ 17 ∷ []) (0 ∷ 32 ∷ 17 ∷ 2 ∷ 0 ∷ []) (9 ∷ 9 ∷ 9 ∷ 9 ∷ 9 ∷ []) ≡ 1 ∷ 1 ∷ 0 ∷ 9 ∷ 9 ∷ []
  pub too_few : run_answer 3 (16 ∷ 1 ∷ 2 ∷ 3 ∷ 17 ∷ []) (0 ∷ 32 ∷ 17 ∷ 2 ∷ 0 ∷ []) 2 ≡ Err Lent
