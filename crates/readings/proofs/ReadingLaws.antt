-- A reading is heard as the event that it rounds to. Assumes nothing.
use Prim.Native.Nat.{ℕ, ◌+◌, ◌<◌}
use mathlib.Core.Path.{◌≡◌, refl, sym, ap, ap₂, ◌∙◌, subst}
use mathlib.Core.Bool.{Bool, true, false, ◌&&◌, cond}
use lib.Dec.{T, lit≤}
use lib.IntN.{ℤ}
use lib.Ieee.{Float}
use mir.Syntax.{w16}
use mir.Val.{to_z, of_z}
use mir.Facts.{to_z-of_z}
use Rattle.line.specs.declared.Point.{Point}
use Rattle.line.specs.Point.{at, in_range}
use Rattle.std.specs.Prelude.{Result, Ok, Err}
use Rattle.line.specs.declared.refusal.Refusal.{Refusal}
use Rattle.line.specs.declared.refusal.Refusal.TheVariants.{Coordinate, NotFinite}
use Rattle.line.specs.Refusal.{number, answered, need, or_next, accepted}
use Rattle.line.proofs.RefusalLaws.{some_number, answer_refused, left_kept, or_some}
use Rattle.line.proofs.Tests.{cond-true, cond-false, by_test, and_split, and_join}
use Rattle.levels.specs.declared.Levels.{Levels}
use Rattle.levels.specs.Levels.{is_finite, rounded, point_of, in_reach}
use Rattle.levels.proofs.FieldLaws.{reach_finite}
use Rattle.levels.proofs.RoundsProof.{judged_rounded, reach_fits}
use Rattle.receiver.specs.declared.Receiver.{Receiver}
use Rattle.receiver.specs.declared.Outcome.{Outcome}
use Rattle.receiver.specs.Receiver.{Event, point, gap, refused, state_refusal, event_refusal, refusal, event_answer, answer, intervals, place_after, event_next, next}
use Rattle.receiver.specs.Outcome as Receiving
use Rattle.receiver.specs.Outcome.{event_outcome, outcome}
use Rattle.readings.specs.declared.Reading.{Reading}
use Rattle.readings.specs.declared.Reading.TheVariants.{Point as InLevels, Squelch, Hole}
use Rattle.readings.specs.declared.Units.{Units}
use Rattle.readings.specs.declared.Units.TheVariants.{Point as InUnits, Gap}
use Rattle.readings.specs.Reading.{event_of, is_number, reading_refusal, reading_answer, reading_place, reading_next, reading_outcome, Told, in_units}

-- WHERE ITS NUMBERS ARE FINITE it is the event

module _ (s : Receiver) (r : Reading) (t : is_number r ≡ true) where
  pub finite_refusal : reading_refusal s r ≡ refusal s (event_of r)
  unfolding reading_refusal refusal
  finite_refusal = ap (λ (b : Bool). or_next (state_refusal s) (need b 18 (event_refusal s (event_of r)))) t

  pub finite_outcome : reading_outcome s r ≡ outcome s (event_of r)
  unfolding reading_outcome outcome
  finite_outcome = ap (λ (n : ℕ). answered n (event_outcome s (event_of r))) finite_refusal

  pub finite_next : reading_next s r ≡ next s (event_of r)
  unfolding reading_next next
  finite_next = ap (λ (n : ℕ). accepted n (event_next s (event_of r)) s) finite_refusal

  pub finite_answer : reading_answer s r ≡ answer s (event_of r)
  unfolding reading_answer answer
  finite_answer = ap (λ (n : ℕ). accepted n (event_answer s (event_of r)) (refused n)) finite_refusal

  finite_place : reading_place s r ≡ place_after s (event_of r)
  unfolding reading_place place_after
  finite_place = ap (λ (n : ℕ). accepted n (s.place.0 + intervals (event_of r)) s.place.0) finite_refusal

-- REFUSED

module _ (s : Receiver) (r : Reading) where
  pub refused_law : (f : Refusal) → number f ≡ reading_refusal s r → (Err f ≡ reading_outcome s r) × Told s r (Err f)
  unfolding reading_outcome reading_answer reading_place reading_next
  refused_law f e =
      let some : reading_refusal s r ≡ 0 → ⊥ = λ z. some_number f (e ∙ z) in (
        answer_refused f _ (event_outcome s (event_of r)) e,
        record {
          answer_is = ap refused e ∙ left_kept _ (event_answer s (event_of r)) (refused (reading_refusal s r)) some;
          place_is = left_kept _ (s.place.0 + intervals (event_of r)) s.place.0 some;
          state_is = left_kept _ (event_next s (event_of r)) s some;
        },
      )

  -- by a number of the state
  state_first : (f : Refusal) → number f ≡ state_refusal s → number f ≡ reading_refusal s r
  unfolding reading_refusal
  state_first f e = e ∙ or_some (state_refusal s) _ (λ z. some_number f (e ∙ z))

-- WHAT THE CODE HANDS ON

-- what refuses a reading after the state, or the event that it is taken as, with nothing but finite numbers
abbrev pub Means : Receiver → Reading → Result Units Refusal → Type 0
Means s r (Err e) = (reading_refusal s r ≡ or_next (state_refusal s) (number e)) × (7 < number e)
Means s r (Ok (InUnits p)) = (is_number r ≡ true) × (event_of r ≡ point p)
Means s r (Ok (Gap n)) = (is_number r ≡ true) × (event_of r ≡ gap n)

abbrev late : Bool → Refusal
late a = cond a Coordinate NotFinite

late_number : (a : Bool) → 7 < number (late a)
late_number true = lit≤ tt
late_number false = lit≤ tt

module _ (s : Receiver) (p : Levels) where
  abbrev finite : Bool
  finite = is_finite p.re && is_finite p.im

  abbrev reach : Bool
  reach = in_reach p.re && in_reach p.im

  reach_number : reach ≡ true → finite ≡ true
  reach_number e =
      let z = and_split (in_reach p.re) (in_reach p.im) e in
      and_join (is_finite p.re) (is_finite p.im) (reach_finite p.re (subst T (sym z.0) tt)) (reach_finite p.im (subst T (sym z.1) tt))

  -- range is judged after rounding
  range_is : finite ≡ true → in_range (point_of p) ≡ reach
  unfolding in_range
  range_is e =
      let z = and_split (is_finite p.re) (is_finite p.im) e in
      sym (ap₂ ◌&&◌ (judged_rounded p.re z.0) (judged_rounded p.im z.1))

  far_number : reach ≡ false → reading_refusal s (InLevels p) ≡ or_next (state_refusal s) (number (late finite))
  unfolding reading_refusal event_refusal
  far_number f =
      by_test finite (λ t. rw (t, range_is t, f)) (λ t. rw t)

  levels_means : Means s (InLevels p) (in_units (InLevels p))
  unfolding in_units
  levels_means =
      by_test reach
      (λ t. subst (Means s (InLevels p)) (sym (cond-true reach (Ok (InUnits (point_of p))) (Err (late finite)) t)) (reach_number t, refl))
      (λ f. subst (Means s (InLevels p)) (sym (cond-false reach (Ok (InUnits (point_of p))) (Err (late finite)) f)) (far_number f, late_number finite))

squelch_means : (s : Receiver) (v : Float) → Means s (Squelch v) (in_units (Squelch v))
unfolding in_units reading_refusal
squelch_means s v =
    by_test (is_finite v)
    (λ t. subst (Means s (Squelch v)) (sym (cond-true (is_finite v) (Ok (Gap 1)) (Err NotFinite) t)) (t, refl))
    (λ f. subst (Means s (Squelch v)) (sym (cond-false (is_finite v) (Ok (Gap 1)) (Err NotFinite) f)) (ap (λ (b : Bool). or_next (state_refusal s) (need b 18 (event_refusal s (gap 1)))) f, lit≤ tt))

pub means : (s : Receiver) (r : Reading) → Means s r (in_units r)
means s (InLevels p) = levels_means s p
means s (Squelch v) = squelch_means s v
means s (Hole n) = unfold in_units in (refl, refl)

-- AS THE CODE HAS IT

module _ (s : Receiver) (r : Reading) (u : Result Units Refusal) (e : u ≡ in_units r) where
  pub refused_units : (k : Refusal) → u ≡ Err k → (reading_refusal s r ≡ or_next (state_refusal s) (number k)) × (7 < number k)
  refused_units k q = subst (Means s r) (sym e ∙ q) (means s r)

  pub point_units : (p : Point) → u ≡ Ok (InUnits p) → (is_number r ≡ true) × (event_of r ≡ point p)
  point_units p q = subst (Means s r) (sym e ∙ q) (means s r)

  pub gap_units : (n : ℕ) → u ≡ Ok (Gap n) → (is_number r ≡ true) × (event_of r ≡ gap n)
  gap_units n q = subst (Means s r) (sym e ∙ q) (means s r)

  event_received : (d : Event) → (is_number r ≡ true) × (event_of r ≡ d) → (o : Result Outcome Refusal) → (o ≡ outcome s d) × Receiving.Told s d o → (o ≡ reading_outcome s r) × Told s r o
  event_received d z o w =
      let t = z.0 in (
        w.0 ∙ ap (outcome s) (sym z.1) ∙ sym (finite_outcome s r t),
        record {
          answer_is = w.1.answer_is ∙ ap (answer s) (sym z.1) ∙ sym (finite_answer s r t);
          place_is = w.1.place_is ∙ ap (place_after s) (sym z.1) ∙ sym (finite_place s r t);
          state_is = w.1.state_is ∙ ap (next s) (sym z.1) ∙ sym (finite_next s r t);
        },
      )

  -- refused by the state, and by the reading
  pub received_state : (f : Refusal) → number f ≡ state_refusal s → (Err f ≡ reading_outcome s r) × Told s r (Err f)
  received_state f a = refused_law s r f (state_first s r f a)

  pub received_refused : (f : Refusal) → u ≡ Err f → 0 ≡ state_refusal s → (Err f ≡ reading_outcome s r) × Told s r (Err f)
  received_refused f q a = refused_law s r f (ap (λ (n : ℕ). or_next n (number f)) a ∙ sym (refused_units f q).0)

  pub received_gap : (n : ℕ) (o : Result Outcome Refusal) → u ≡ Ok (Gap n) → (o ≡ outcome s (gap n)) × Receiving.Told s (gap n) o → (o ≡ reading_outcome s r) × Told s r o
  received_gap n o q z = event_received (gap n) (gap_units n q) o z

  pub received_point : (p : Point) (o : Result Outcome Refusal) → u ≡ Ok (InUnits p) → (o ≡ outcome s (point p)) × Receiving.Told s (point p) o → (o ≡ reading_outcome s r) × Told s r o
  received_point p o q z = event_received (point p) (point_units p q) o z

-- INTO UNITS

pub both_reached : (a b : Bool) (x y : Float) → a ≡ in_reach x → b ≡ in_reach y → (a && b) ≡ true → T (in_reach x) × T (in_reach y)
both_reached a b x y e f t = let z = and_split a b t in (subst T (sym (sym e ∙ z.0)) tt, subst T (sym (sym f ∙ z.1)) tt)

module _ (p : Levels) (a b : Bool) (e : a ≡ in_reach p.re) (f : b ≡ in_reach p.im) where
  pub point_reached : (x y : ℤ) → (a && b) ≡ true → x ≡ rounded p.re → y ≡ rounded p.im → Ok (InUnits (at (to_z w16 (of_z w16 x)) (to_z w16 (of_z w16 y)))) ≡ in_units (InLevels p)
  unfolding in_units
  point_reached x y t q r =
      let c : in_reach p.re && in_reach p.im ≡ true = sym (ap₂ ◌&&◌ e f) ∙ t in
      let z = and_split (in_reach p.re) (in_reach p.im) c in
      ap₂ (λ (i j : ℤ). Ok (InUnits (at (to_z w16 (of_z w16 i)) (to_z w16 (of_z w16 j))))) q r
      ∙ ap₂ (λ (i j : ℤ). Ok (InUnits (at i j)))
      (to_z-of_z {w = w16} (reach_fits p.re (subst T (sym z.0) tt)))
      (to_z-of_z {w = w16} (reach_fits p.im (subst T (sym z.1) tt)))
      ∙ sym (cond-true _ _ _ c)

  module _ (t : (a && b) ≡ false) (c d : Bool) (q : c ≡ is_finite p.re) (r : d ≡ is_finite p.im) where
    refused_as : (g : Bool) → (c && d) ≡ g → Err (late g) ≡ in_units (InLevels p)
    unfolding in_units
    refused_as g k = ap (λ (i : Bool). Err (late i)) (sym k ∙ ap₂ ◌&&◌ q r) ∙ sym (cond-false _ _ _ (sym (ap₂ ◌&&◌ e f) ∙ t))

    pub point_far : (c && d) ≡ true → Err Coordinate ≡ in_units (InLevels p)
    point_far k = refused_as true k

    pub point_not_finite : (c && d) ≡ false → Err NotFinite ≡ in_units (InLevels p)
    point_not_finite k = refused_as false k

module _ (r : Reading) where
  pub levels_in_units : (p : Levels) (u : Result Units Refusal) → r ≡ InLevels p → u ≡ in_units (InLevels p) → u ≡ in_units r
  levels_in_units p u e q = q ∙ ap in_units (sym e)

  pub squelch_in_units : (v : Float) (b : Bool) → r ≡ Squelch v → b ≡ is_finite v → b ≡ true → Ok (Gap 1) ≡ in_units r
  unfolding in_units
  squelch_in_units v b e q t = ap (λ (c : Bool). cond c (Ok (Gap 1)) (Err NotFinite)) (sym t ∙ q) ∙ ap in_units (sym e)

  pub squelch_not_finite : (v : Float) (b : Bool) → r ≡ Squelch v → b ≡ is_finite v → b ≡ false → Err NotFinite ≡ in_units r
  unfolding in_units
  squelch_not_finite v b e q t = ap (λ (c : Bool). cond c (Ok (Gap 1)) (Err NotFinite)) (sym t ∙ q) ∙ ap in_units (sym e)

  pub hole_in_units : (n : ℕ) → r ≡ Hole n → Ok (Gap n) ≡ in_units r
  unfolding in_units
  hole_in_units n e = ap in_units (sym e)
