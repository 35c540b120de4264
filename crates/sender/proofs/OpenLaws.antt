-- Writing training: one turn of the loop, and what no refusal of opening says. Assumes nothing.
use Prim.Native.Nat.{ℕ, suc, ◌+◌, ◌*◌, ◌-◌, ◌<◌, ◌≤◌}
use mathlib.Core.Path.{◌≡◌, refl, sym, ◌∙◌, ap, ap₂}
use mathlib.Core.List.{List, ◌∷◌}
use native.Mathlib.Numerals.{add-one}
use native.Mathlib.Nat.{sub-zero}
use native.Mathlib.Omega.{arith}
use lib.Dec.{T, leb→le}
use lib.IntN.{ℤ}
use lib.ListN.{length, set, length-set}
use lib.Seq.{sets}
use Rattle.line.specs.Mode.{is_mode, is_role}
use Rattle.line.specs.Refusal.{mode_refusal}
use Rattle.line.specs.Point.{sent_point}
use Rattle.line.proofs.RefusalLaws.{need_met, need_rest, next-first, next_rest, mode_met}
use Rattle.training.specs.declared.Coder.{Coder}
use Rattle.training.specs.Coder.{numbers}
use Rattle.training.specs.Training.{train, start, intervals, trained, trained_states}
use Rattle.training.specs.Middle.{MiddleTable}
use Rattle.training.specs.Ahead.{ahead, ahead_start}
use Rattle.training.proofs.AheadLaws.{by_table}
use Rattle.sender.specs.Sender.{has_room}
use Rattle.sender.specs.Open.{length_ok, open_refusal, training_numbers}
use Rattle.sender.proofs.SendLaws.{point_step}

-- what is left of n intervals by a rule
pub record TrainingLeft (f : ℕ → Coder → Coder) (m n : ℕ) (c₀ : Coder) (out₀ : List ℤ) (c : Coder) (out : List ℤ) (i : ℕ) : Type 0 where
  pub within : i ≤ n
  pub same_length : length out ≡ length out₀
  pub coder : trained f i (n - i) c ≡ trained f 0 n c₀
  pub written : sets out (2 * i) (numbers m (trained_states f i (n - i) c)) ≡ sets out₀ 0 (numbers m (trained_states f 0 n c₀))

pub all_training : (f : ℕ → Coder → Coder) (m n : ℕ) (c : Coder) (out : List ℤ) → TrainingLeft f m n c out c out 0
all_training f m n c out = record { within = omega arith; same_length = refl; coder = rw sub-zero; written = rw sub-zero }

module _ (f : ℕ → Coder → Coder) (m n : ℕ) (c₀ : Coder) (out₀ : List ℤ) (c : Coder) (out : List ℤ) (i : ℕ) (l : TrainingLeft f m n c₀ out₀ c out i) where
  pub less_training : (d : Coder) (re im : ℤ) → i < n → d ≡ f i c → re ≡ (sent_point m d.reference).re → im ≡ (sent_point m d.reference).im
      → TrainingLeft f m n c₀ out₀ d (set (set out (2 * i) re) (2 * i + 1) im) (i + 1)
  less_training d re im h e er ei =
      let s : n - i ≡ suc (n - (i + 1)) = omega arith in
      let k : 2 * (i + 1) ≡ 2 * i + 2 = omega arith in
      record {
        within = omega arith;
        same_length = simp length-set l.same_length;
        coder = ap (λ (x : Coder). trained f (i + 1) (n - (i + 1)) x) e ∙ ap (λ (j : ℕ). trained f j (n - (i + 1)) (f i c)) (add-one i)
            ∙ sym (ap (λ (j : ℕ). trained f i j c) s) ∙ l.coder;
        written = ap (λ (j : ℕ). sets (set (set out (2 * i) re) (2 * i + 1) im) j (numbers m (trained_states f (i + 1) (n - (i + 1)) d))) k
            ∙ sym (point_step m d.reference (trained_states f (i + 1) (n - (i + 1)) d) out (2 * i) re im er ei)
            ∙ ap (λ (x : Coder). sets out (2 * i) (numbers m (x.reference ∷ trained_states f (i + 1) (n - (i + 1)) x))) e
            ∙ ap (λ (j : ℕ). sets out (2 * i) (numbers m ((f i c).reference ∷ trained_states f j (n - (i + 1)) (f i c)))) (add-one i)
            ∙ sym (ap (λ (j : ℕ). sets out (2 * i) (numbers m (trained_states f i j c))) s) ∙ l.written;
      }

  pub trained_all : n ≤ i → (c ≡ trained f 0 n c₀) × (out ≡ sets out₀ 0 (numbers m (trained_states f 0 n c₀)))
  trained_all h =
      let z : n - i ≡ 0 = omega arith in (
        sym (ap (λ (j : ℕ). trained f i j c) z) ∙ l.coder,
        sym (ap (λ (j : ℕ). sets out (2 * i) (numbers m (trained_states f i j c))) z) ∙ l.written,
      )

-- what the writer of training leaves and writes
pub written_training : (t : List ℕ) → MiddleTable t → (m role length n : ℕ) (c₀ c : Coder) (out₀ out : List ℤ) (i : ℕ) → n ≡ intervals m length → c₀ ≡ ahead_start m
    → TrainingLeft (ahead t m role length) m n c₀ out₀ c out i → n ≤ i
    → (c ≡ trained (train m role length) 0 (intervals m length) (start m)) × (out ≡ sets out₀ 0 (training_numbers m role length))
unfolding training_numbers
written_training t rule m role length n c₀ c out₀ out i en ec l h =
    let p = trained_all (ahead t m role length) m n c₀ out₀ c out i l h in
    let e = by_table t rule m role length in (
      p.0 ∙ ap₂ (trained (ahead t m role length) 0) en ec ∙ ap (λ (x : List ℕ × Coder). x.1) e,
      p.1 ∙ ap₂ (λ (k : ℕ) (d : Coder). sets out₀ 0 (numbers m (trained_states (ahead t m role length) 0 k d))) en ec
          ∙ ap (λ (x : List ℕ × Coder). sets out₀ 0 (numbers m x.0)) e,
    )

pub record OpenOk (m role n lent offset : ℕ) : Type 0 where
  pub mode : T (is_mode m)
  pub role_of : T (is_role m role)
  pub room : offset + 2 * intervals m n ≤ lent

pub open_ok : (m role n lent offset : ℕ) → open_refusal m role n lent offset ≡ 0 → OpenOk m role n lent offset
unfolding open_refusal has_room
open_ok m role n lent offset z =
    let k = mode_met m role (next-first (mode_refusal m role) _ z) in
    let r = need_rest (length_ok m n) 2 _ (next_rest (mode_refusal m role) _ z) in
    record { mode = k.0; role_of = k.1; room = leb→le _ _ (need_met (has_room (intervals m n) lent offset) 6 0 r) }
