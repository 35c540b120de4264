-- How the code trains V.27 ter: by a table of the middle changes, so that no line bit of them is computed and the register stands from
-- the start where they leave it.
-- Nobody need believe this file: the statement `ByTable` at its end says that it is the training of `Training`.
use Rattle.std.specs.Prelude.{ℕ, ◌+◌, ◌*◌, ◌-◌, ◌^◌, ◌%◌, ◌≡◌, cond, List, ltb, get_or, replicate}
use Rattle.line.specs.Mode.{by_mode, width, capacity}
use Rattle.scrambler.specs.Register.{register}
use Rattle.training.specs.declared.Coder.{Coder}
use Rattle.training.specs.Coder.{coder, coding}
use Rattle.training.specs.Training.{reversals, changes, train32, train, start, intervals, trained, trained_states}
use Rattle.training.specs.Middle.{MiddleTable}

unfoldable pub ahead27 : List ℕ → ℕ → ℕ → ℕ → ℕ → Coder → Coder
ahead27 t m role choice i c =
    cond (ltb i (reversals choice)) (coder ((c.reference + 4) % 8) c.line)
    (cond (ltb i (reversals choice + changes choice)) (coder ((c.reference + 4 * get_or t (i - reversals choice) 0) % 8) c.line)
    (coding m role c (replicate (width m) 1)))

unfoldable pub ahead : List ℕ → ℕ → ℕ → ℕ → ℕ → Coder → Coder
ahead t m role length i c =
    by_mode m (ahead27 t m role length i c) (ahead27 t m role length i c) (train32 m role i c) (train32 m role i c)

unfoldable pub ahead_start : ℕ → Coder
ahead_start m =
    let v27 : Coder = coder 0 (register (0b110100010001 % 2 ^ capacity m) (capacity m) 0) in
    let v32 : Coder = coder 1 (register 0 (capacity m) 0) in
    by_mode m v27 v27 v32 v32

-- the states that a whole training sends, and what it leaves
abbrev pub sent_by : (ℕ → Coder → Coder) → ℕ → ℕ → Coder → List ℕ × Coder
sent_by f m n c = (trained_states f 0 (intervals m n) c, trained f 0 (intervals m n) c)

-- training by the table sends what training sends, and leaves what it leaves; proved in proofs/AheadLaws
abbrev pub ByTable : Type 0
ByTable =
    (t : List ℕ) → MiddleTable t → (m role n : ℕ) → sent_by (ahead t m role n) m n (ahead_start m) ≡ sent_by (train m role n) m n (start m)
