-- A run of settled data bits in lent bytes, and where it is in lent numbers. Assumes nothing.
use Prim.Native.Nat.{ℕ, zero, suc, ◌≤◌, ◌<◌}
use mathlib.Core.Path.{◌≡◌, refl, sym, ap, ◌∙◌}
use mathlib.Core.Bool.{Bool, true, false, ◌&&◌}
use mathlib.Core.List.{List, [], ◌∷◌}
use borrow.Author.Tests.{le-leb, lt-leb}
use lib.Dec.{eqb, leb}
use lib.ListN.{length}
use lib.Seq.{sets}
use Rattle.line.specs.Mode.{is_mode, width}
use Rattle.line.specs.Refusal.{need, or_next, accepted}
use Rattle.settled.specs.declared.Run.{Run}
use Rattle.settled.specs.Run.{data_of_bytes, run_bits, run_refusal, run_of, run_bytes}
use Rattle.kerambiu.specs.Blocks.{run_number, run_out, three_of_run, run_result}

-- the numbers of a run, if one is told
abbrev pub numbers_of : List Run → List ℕ
numbers_of [] = []
numbers_of (r ∷ rs) = three_of_run r

module _ (m : ℕ) (line plain out run : List ℕ) where
  abbrev Ends : ℕ → List ℕ → List ℕ → Type 0
  Ends n w ks = (n ≡ run_number m line plain out run) × (w ≡ run_out m line plain out run) × (ks ≡ run_result m line plain out run)

  ends : (k n : ℕ) (w ks : List ℕ) → run_number m line plain out run ≡ k → n ≡ k → w ≡ accepted k (run_bytes m line plain out) out
      → ks ≡ accepted k (sets run 0 (three_of_run (run_of (data_of_bytes (width m) line plain)))) run → Ends n w ks
  unfolding run_out run_result
  ends k n w ks e en ew ek = (en ∙ sym e, rw e ew, rw e ek)

  -- fewer than three lent numbers
  pub run_short : (b : Bool) → length run < 3 → b ≡ is_mode m → Ends (need b 1 7) out run
  unfolding run_number run_refusal
  run_short b h eb = go (is_mode m) fits refl (ap (λ (c : Bool). or_next (run_refusal m line plain (length out)) (need c 7 0)) (lt-leb 3 (length run) h))
    where
      fits : Bool
      fits = eqb (length line) (length plain) && leb (length (run_bits (data_of_bytes (width m) line plain))) (length out)

      go : (t x : Bool) → is_mode m ≡ t → run_number m line plain out run ≡ or_next (need t 1 (need x 7 0)) 7 → Ends (need b 1 7) out run
      go false x f e = ends 1 _ out run e (ap (λ (c : Bool). need c 1 7) (eb ∙ f)) refl refl
      go true true f e = ends 7 _ out run e (ap (λ (c : Bool). need c 1 7) (eb ∙ f)) refl refl
      go true false f e = ends 7 _ out run e (ap (λ (c : Bool). need c 1 7) (eb ∙ f)) refl refl

  -- what the call gave: its number, the runs that it tells, and the lent bytes
  pub run_given : (n : ℕ) (rs : List Run) (w : List ℕ) → 3 ≤ length run → n ≡ run_refusal m line plain (length out)
      → rs ≡ accepted (run_refusal m line plain (length out)) (run_of (data_of_bytes (width m) line plain) ∷ []) [] → w ≡ run_bytes m line plain out
      → Ends n w (sets run 0 (numbers_of rs))
  unfolding run_number run_bytes
  run_given n rs w h en er ew = go (run_refusal m line plain (length out)) refl
    where
      number : (k : ℕ) → run_refusal m line plain (length out) ≡ k → run_number m line plain out run ≡ k
      number zero e = rw (e, le-leb 3 (length run) h) refl
      number (suc k) e = rw e refl

      told : {k : ℕ} → run_refusal m line plain (length out) ≡ k
          → accepted (run_refusal m line plain (length out)) (run_of (data_of_bytes (width m) line plain) ∷ []) [] ≡ accepted k (run_of (data_of_bytes (width m) line plain) ∷ []) []
      told e = ap (λ (j : ℕ). accepted j (run_of (data_of_bytes (width m) line plain) ∷ []) []) e

      go : (k : ℕ) → run_refusal m line plain (length out) ≡ k → Ends n w (sets run 0 (numbers_of rs))
      go zero e = ends zero n w _ (number zero e) (en ∙ e) ew (ap (λ (l : List Run). sets run 0 (numbers_of l)) (er ∙ told e))
      go (suc k) e = ends (suc k) n w _ (number (suc k) e) (en ∙ e) (ew ∙ rw e refl) (ap (λ (l : List Run). sets run 0 (numbers_of l)) (er ∙ told e))
