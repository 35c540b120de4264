-- A list of calls is the list of its single events. Assumes nothing.
use Prim.Native.Nat.{ℕ, zero, suc}
use mathlib.Core.Path.{◌≡◌, refl, sym, ◌∙◌, ap, ap₂}
use mathlib.Core.Bool.{true, ◌&&◌}
use mathlib.Core.List.{List, [], ◌∷◌, ◌++◌, map}
use lib.Dec.{T}
use lib.Ieee.{Float}
use Rattle.line.specs.Point.{pairs}
use Rattle.line.specs.Table.{every}
use Rattle.line.specs.Refusal.{answered, accepted}
use Rattle.line.proofs.RefusalLaws.{need_met, next_rest}
use Rattle.line.proofs.TableLaws.{is_true, and_left, and_right, and_intro}
use Rattle.levels.specs.Levels.{is_finite, rounded}
use Rattle.receiver.specs.declared.Receiver.{Receiver}
use Rattle.receiver.specs.Receiver.{Event, point, state_refusal, event_refusal, event_next, next}
use Rattle.receiver.specs.Calls.{after, EachAccepted, heard}
use Rattle.receiver.proofs.CallLaws.{after_append, heard_append, heard-accepted}
use Rattle.bulk.specs.Block.{Given, in_levels, points_of, Lent, block_refusal, state_of, block}
use Rattle.bulk.proofs.BlockLaws.{one_by_one as each_accepted, all_finite}
use Rattle.readings.specs.declared.Reading.{Reading}
use Rattle.readings.specs.Reading.{levels, event_of, is_number, reading_refusal, reading_answer, reading_next}
use Rattle.readings.proofs.ReadingLaws.{finite_refusal, finite_answer, finite_next}
use Rattle.resync.specs.CallLists.{Call, single, reading, many, many_levels, next_of, after_calls, heard_block, heard_of, heard_calls, block_events, singles_of, singles, OneByOne, level_pairs, AsReadings}

-- A READING is heard as its event

accepted-number : (s : Receiver) (r : Reading) → reading_refusal s r ≡ 0 → is_number r ≡ true
unfolding reading_refusal
accepted-number s r z = is_true (is_number r) (need_met (is_number r) 17 (event_refusal s (event_of r)) (next_rest (state_refusal s) _ z))

module _ (s : Receiver) (r : Reading) where
  of_reading : (n : ℕ) → reading_refusal s r ≡ n
      → (reading_next s r ≡ after s (accepted n (event_of r ∷ []) [])) × (accepted n (record { event = event_of r; answered = reading_answer s r } ∷ []) [] ≡ heard s (accepted n (event_of r ∷ []) []))
  of_reading zero z =
      let t = accepted-number s r z in (
        finite_next s r t,
        ap (λ a. record { event = event_of r; answered = a } ∷ []) (finite_answer s r t) ∙ sym (heard-accepted s (event_of r) [] (sym (finite_refusal s r t) ∙ z)),
      )
  of_reading (suc n) z = (unfold reading_next in (ap (λ (i : ℕ). accepted i (event_next s (event_of r)) s) z), refl)

-- A BLOCK as its points

of_block : (s : Receiver) (g : Given) (n : Lent) → (state_of s (block s g n) ≡ after s (block_events s g n)) × (heard_block s g n ≡ heard s (block_events s g n))
unfolding block
of_block s g n = by (block_refusal s g n)
  where
    by : (k : ℕ) → (state_of s (answered k (after s (map point (points_of g)))) ≡ after s (accepted k (map point (points_of g)) []))
        × (accepted k (heard s (map point (points_of g))) [] ≡ heard s (accepted k (map point (points_of g)) []))
    by zero = (refl, refl)
    by (suc k) = (refl, refl)

of_call : (s : Receiver) (c : Call) → (next_of s c ≡ after s (singles_of s c)) × (heard_of s c ≡ heard s (singles_of s c))
of_call s (single e) = (refl, refl)
of_call s (reading r) = of_reading s r (reading_refusal s r) refl
of_call s (many zs n) = of_block s _ n
of_call s (many_levels vs n) = of_block s (in_levels vs) n

pub one_by_one : OneByOne
one_by_one s [] = (refl, refl)
one_by_one s (c ∷ cs) =
    let e = of_call s c in
    let i = one_by_one (next_of s c) cs in
    let es : List Event = singles (next_of s c) cs in (
      i.0 ∙ ap (λ (t : Receiver). after t es) e.0 ∙ sym (after_append s (singles_of s c) es),
      ap₂ ◌++◌ e.1 (i.1 ∙ ap (λ (t : Receiver). heard t es) e.0) ∙ sym (heard_append s (singles_of s c) es),
    )

-- POINTS IN LEVELS one by one

readings_heard : (s : Receiver) (vs : List Float) → T (every is_finite vs) → EachAccepted s (map point (pairs (map rounded vs)))
    → (heard s (map point (pairs (map rounded vs))) ≡ heard_calls s (map reading (level_pairs vs))) × (after s (map point (pairs (map rounded vs))) ≡ after_calls s (map reading (level_pairs vs)))
readings_heard s [] t f = (refl, refl)
readings_heard s (x ∷ []) t f = (refl, refl)
readings_heard s (x ∷ y ∷ vs) t f =
    let r : Reading = levels (record { re = x; im = y }) in
    let rest = and_right (is_finite x) (is_finite y && every is_finite vs) t in
    let n : is_number r ≡ true = is_true (is_finite x && is_finite y) (and_intro (is_finite x) (is_finite y) (and_left (is_finite x) (is_finite y && every is_finite vs) t) (and_left (is_finite y) (every is_finite vs) rest)) in
    let z : reading_refusal s r ≡ 0 = finite_refusal s r n ∙ f.0 in
    let o = of_reading s r (reading_refusal s r) refl in
    let e : reading_next s r ≡ next s (event_of r) = finite_next s r n in
    let i = readings_heard (next s (event_of r)) vs (and_right (is_finite y) (every is_finite vs) rest) f.1 in (
      heard-accepted s (event_of r) (map point (pairs (map rounded vs))) f.0
          ∙ ap₂ ◌++◌ (sym (heard-accepted s (event_of r) [] f.0) ∙ ap (λ (k : ℕ). heard s (accepted k (event_of r ∷ []) [])) (sym z) ∙ sym o.1) (i.0 ∙ ap (λ (u : Receiver). heard_calls u (map reading (level_pairs vs))) (sym e)),
      i.1 ∙ ap (λ (u : Receiver). after_calls u (map reading (level_pairs vs))) (sym e),
    )

pub as_readings : AsReadings
as_readings s vs n z =
    let g : Given = in_levels vs in
    let h = readings_heard s vs (all_finite s g n z) (each_accepted s g n z) in
    let o = of_block s g n in (
      o.1 ∙ ap (λ (k : ℕ). heard s (accepted k (map point (points_of g)) [])) z ∙ h.0,
      o.0 ∙ ap (λ (k : ℕ). after s (accepted k (map point (points_of g)) [])) z ∙ h.1,
    )
