-- A reading over lent bytes is the point or the gap that it is handed on as. Assumes nothing.
use Prim.Native.Nat.{ℕ, zero, suc, ◌<◌}
use mathlib.Core.Path.{◌≡◌, refl, sym, ap, ap₂, ◌∙◌}
use mathlib.Core.Bool.{Bool, true, false, ◌&&◌, cond}
use mathlib.Core.List.{List}
use native.Mathlib.Omega.{arith}
use lib.Dec.{lit≤}
use lib.ListN.{length}
use lib.Seq.{sets}
use borrow.Author.Tests.{le-leb, lt-leb}
use Rattle.line.specs.declared.Point.{Point}
use Rattle.line.specs.Mode.{is_mode, is_role}
use Rattle.std.specs.Prelude.{Result, Ok, Err}
use Rattle.line.specs.declared.refusal.Refusal.{Refusal}
use Rattle.line.specs.Refusal.{number, need, or_next, accepted, mode_refusal}
use Rattle.receiver.specs.declared.Receiver.{Receiver}
use Rattle.receiver.specs.declared.Outcome.{Outcome}
use Rattle.receiver.specs.Receiver.{Event, point, gap, fields_ok, state_refusal, refusal, next}
use Rattle.receiver.specs.Outcome.{outcome}
use Rattle.readings.specs.declared.Reading.{Reading}
use Rattle.readings.specs.declared.Units.{Units}
use Rattle.readings.specs.declared.Units.TheVariants.{Point as InUnits, Gap}
use Rattle.readings.specs.Reading.{event_of, is_number, reading_refusal, reading_next, reading_outcome, in_units}
use Rattle.readings.proofs.ReadingLaws.{finite_refusal, finite_outcome, finite_next, refused_units, point_units, gap_units}
use Rattle.lent.specs.State.{holds_state}
use Rattle.lent_receiver.specs.Receiving.{receiver_in, receiver_out, answer_out, holds_answer, at_most7, lent_number, state_number, call_number, call_state, call_answer}
use Rattle.lent_readings.specs.Reading.{reading_number, reading_state, reading_bytes, refused_number}

abbrev pub Done : List ℕ → List ℕ → Reading → ℕ → List ℕ → List ℕ → Type 0
Done state answer r n st an = (n ≡ reading_number state answer r) × (st ≡ reading_state state answer r) × (an ≡ reading_bytes state answer r)

-- the state's numbers are 1, 2 and 4
state_small : (s : Receiver) → state_refusal s < 7
unfolding state_refusal mode_refusal
state_small s = by (is_mode s.mode) (is_role s.mode s.role) (fields_ok s.mode s.reference s.line)
  where
    by : (a b c : Bool) → or_next (need a 1 (need b 2 0)) (need c 4 0) < 7
    by true true true = lit≤ tt
    by true true false = lit≤ tt
    by true false c = lit≤ tt
    by false b c = lit≤ tt

-- 18 and 8 in their order: after 7, whether the state's bytes are too few or the answer's
in_order : (a b : Bool) (k n : ℕ) → k < 7 → 7 < n → or_next (need a 7 k) (need b 7 n) ≡ need a 7 (cond b (or_next k n) (at_most7 (or_next k n)))
unfolding at_most7
in_order false b k n l h = refl
in_order true true k n l h = refl
in_order true false zero n l h = sym (ap₂ (λ (a b : Bool). cond (a && b) n 7) (le-leb 1 n (omega arith)) (lt-leb (suc n) 7 (omega arith)))
in_order true false (suc k) n l h = sym (ap₂ (λ (a b : Bool). cond (a && b) (suc k) 7) (le-leb 1 (suc k) (omega arith)) (le-leb (suc (suc k)) 7 l))

never : (a b : Bool) (k n : ℕ) → k < 7 → 7 < n → {A : Type 0} (x y : A) → accepted (need a 7 (cond b (or_next k n) (at_most7 (or_next k n)))) x y ≡ y
never a b k n l h x y = ap (λ (i : ℕ). accepted i x y) (sym (in_order a b k n l h)) ∙ by a b k n h x y
  where
    by : {A : Type 0} (a b : Bool) (k n : ℕ) → 7 < n → (x y : A) → accepted (or_next (need a 7 k) (need b 7 n)) x y ≡ y
    by false b k n h x y = refl
    by true true zero zero h x y = absurd (omega arith)
    by true true zero (suc n) h x y = refl
    by true false zero n h x y = refl
    by true b (suc k) n h x y = refl

-- AS THE CODE HAS IT

module _ (state answer : List ℕ) (r : Reading) (u : Result Units Refusal) (e : u ≡ in_units r) where
  abbrev there : Receiver
  there = receiver_in state

  -- refused after the state's numbers
  pub refused_done : (f : Refusal) (n : ℕ) → u ≡ Err f → n ≡ refused_number state (length answer) (number f) → Done state answer r n state answer
  unfolding reading_number reading_state reading_bytes refused_number state_number
  refused_done f n q z =
      let k : ℕ = number f in
      let w = refused_units there r u e f q in
      let past : (a b : List ℕ) → accepted (lent_number state answer (reading_refusal there r)) a b ≡ b =
      λ a b. ap (λ (i : ℕ). accepted (lent_number state answer i) a b) w.0 ∙ never (holds_state state) (holds_answer answer) (state_refusal there) k (state_small there) w.1 a b in (
        z ∙ in_order (holds_state state) (holds_answer answer) (state_refusal there) k (state_small there) w.1 ∙ ap (lent_number state answer) (sym w.0),
        sym (past (sets state 0 (receiver_out (reading_next there r))) state),
        sym (past (sets answer 0 (answer_out (reading_outcome there r))) answer),
      )

  -- taken as an event
  event_done : (d : Event) → (is_number r ≡ true) × (event_of r ≡ d) → (n : ℕ) (st an : List ℕ) → (n ≡ call_number state answer d) × (st ≡ call_state state answer d) × (an ≡ call_answer state answer d) → Done state answer r n st an
  unfolding call_number call_state call_answer reading_number reading_state reading_bytes
  event_done d w n st an z =
      let same : refusal there d ≡ reading_refusal there r = ap (refusal there) (sym w.1) ∙ sym (finite_refusal there r w.0) in (
        z.0 ∙ ap (lent_number state answer) same,
        z.1 ∙ ap₂ (λ (i : ℕ) (s : Receiver). accepted (lent_number state answer i) (sets state 0 (receiver_out s)) state) same (ap (next there) (sym w.1) ∙ sym (finite_next there r w.0)),
        z.2 ∙ ap₂ (λ (i : ℕ) (o : Result Outcome Refusal). accepted (lent_number state answer i) (sets answer 0 (answer_out o)) answer) same (ap (outcome there) (sym w.1) ∙ sym (finite_outcome there r w.0)),
      )

  pub gap_done : (m n : ℕ) (st an : List ℕ) → u ≡ Ok (Gap m) → (n ≡ call_number state answer (gap m)) × (st ≡ call_state state answer (gap m)) × (an ≡ call_answer state answer (gap m)) → Done state answer r n st an
  gap_done m n st an q z = event_done (gap m) (gap_units there r u e m q) n st an z

  pub point_done : (p : Point) (n : ℕ) (st an : List ℕ) → u ≡ Ok (InUnits p) → (n ≡ call_number state answer (point p)) × (st ≡ call_state state answer (point p)) × (an ≡ call_answer state answer (point p)) → Done state answer r n st an
  point_done p n st an q z = event_done (point p) (point_units there r u e p q) n st an z
