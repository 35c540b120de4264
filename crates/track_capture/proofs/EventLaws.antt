-- The events of a capture appended one after the other. Assumes nothing.
use mathlib.Core.Path.{◌≡◌, refl, sym, ap, ap₂, ◌∙◌, subst}
use mathlib.Core.Bool.{true, false, false≢true}
use mathlib.Core.List.{List, [], ◌∷◌, ◌++◌, map, map-append, append_assoc}
use Prim.Native.Nat.{ℕ, zero, suc, ◌+◌, ◌*◌, ◌≤◌, ◌<◌}
use native.Mathlib.Omega.{arith}
use native.Mathlib.Nat.{add-zero}
use borrow.Author.Tests.{ltb-false, eqb-true, eqb-false}
use lib.Dec.{eqb, ltb}
use lib.IntN.{ℤ}
use lib.ListN.{length, take, drop, set, length-append, length-drop, length-set, length-map}
use lib.Seq.{drop-drop, length-take-le, take_at, drop_at}
use Rattle.line.specs.declared.Point.{Point as Place}
use Rattle.line.specs.Point.{at, pairs}
use Rattle.line.proofs.PointLaws.{pairs-length, pairs_split}
use Rattle.line.proofs.Tests.{by_test}
use Rattle.line.proofs.RefusalLaws.{some_number, left_done, left_kept, or_some}
use Rattle.octets.specs.Number.{u32}
use Rattle.store.specs.Chain.{sum_over}
use Rattle.store.proofs.Chains.{sum_append}
use Rattle.store.specs.Layout.{Event, point, lost, point_at}
use Rattle.store.specs.Store.{events}
use Rattle.track.specs.Calls.{call_number, call_result, after, taken, EachAccepted, Holds}
use Rattle.track.specs.Points.{point_events, points_number, points_result}
use Rattle.track.proofs.Runs.{points_free}
use Rattle.track.proofs.CallLaws.{refused_law, appends_read}
use Rattle.capture.specs.Capture.{mark_number, first, size, events_from, events_in, told}
use Rattle.std.specs.Prelude.{Option, Some, None, Result, Ok, Err, is_ok, ⊤}
use Rattle.std.specs.Result.{result_unwrap_or, result_err}
use Rattle.line.specs.declared.refusal.Refusal.{Refusal}
use Rattle.line.specs.Refusal.{number, numbered}
use Rattle.capture.specs.declared.Event.{Event as Read}
use Rattle.capture.specs.declared.Event.TheVariants.{Point}
use Rattle.track_capture.specs.declared.Run.{Run}
use Rattle.track_capture.specs.Appending.{accepted_of, number_of, number_in, Appends, Steps, Runs, Goes}
use Rattle.track_capture.specs.Laws.{AppendedRead}

-- ---- the events of a capture
-- no event, or one whose bytes are all there
by_first : {A : Type 0} (bs : List ℕ) → (first bs ≡ [] → A) → ((e : Event) → first bs ≡ e ∷ [] → 4 ≤ size e → size e ≤ length bs → A) → A
unfolding first
by_first bs none some =
    by_test (ltb (length bs) 4)
    (λ t. none (rw t))
    (λ t. let h : 4 ≤ length bs = ltb-false (length bs) 4 t in
    by_test (eqb (u32 bs 0) mark_number)
    (λ m. by_test (ltb (length bs) 8)
    (λ l. none (rw (t, m, l)))
    (λ l. some (lost (u32 bs 4)) (rw (t, m, l)) (omega arith) (ltb-false (length bs) 8 l)))
    (λ m. some (point (point_at bs)) (rw (t, m)) (omega arith) h))

-- steps enough for the bytes are enough
enough : (k m : ℕ) (bs : List ℕ) → length bs ≤ k → length bs ≤ m → events_from k bs ≡ events_from m bs
enough zero zero bs h g = refl
enough zero (suc m) bs h g = by_first bs (λ e. rw e) (λ e q l f. absurd (omega arith))
enough (suc k) zero bs h g = by_first bs (λ e. rw e) (λ e q l f. absurd (omega arith))
enough (suc k) (suc m) bs h g =
    by_first bs
    (λ e. rw e)
    (λ e q l f.
    rw q
    (ap (λ (es : List Event). e ∷ es)
    (enough k m (drop (size e) bs) (omega (arith, length-drop (size e) bs)) (omega (arith, length-drop (size e) bs)))))

events_none : (bs : List ℕ) → first bs ≡ [] → events_in bs ≡ []
unfolding events_in
events_none bs e = enough (length bs) (suc (length bs)) bs (omega arith) (omega arith) ∙ rw e

events-next : (bs : List ℕ) (e : Event) → first bs ≡ e ∷ [] → events_in bs ≡ e ∷ events_in (drop (size e) bs)
unfolding events_in
events-next bs e q =
    enough (length bs) (suc (length bs)) bs (omega arith) (omega arith)
    ∙ rw q
    (ap (λ (es : List Event). e ∷ es)
    (enough (length bs) (length (drop (size e) bs)) (drop (size e) bs) (omega (arith, length-drop (size e) bs)) (omega arith)))

-- ---- one event
-- one that is taken, and one that is refused
step_taken : (s : List ℕ) (e : Event) (s' : List ℕ) → 0 ≡ call_number s e → s' ≡ call_result s e → Steps s (e ∷ []) s' (Ok (size e))
step_taken s e s' n t =
    let c : call_number s e ≡ 0 = sym n in
    record { number = rw c; store = t ∙ rw c; used = rw c (sym (add-zero (size e))) }

step_refused : (s : List ℕ) (e : Event) (s' : List ℕ) (f : Refusal) → number f ≡ call_number s e → s' ≡ call_result s e → Steps s (e ∷ []) s' (Err f)
step_refused s e s' f n t =
    let c : call_number s e ≡ 0 → ⊥ = λ q. some_number f (n ∙ q) in
    let k : accepted_of s (e ∷ []) ≡ [] = sym (left_kept (call_number s e) (e ∷ []) [] c) in
    record { number = n ∙ or_some (call_number s e) 0 c; store = t ∙ refused_law s e c ∙ rw k; used = rw k }

-- by what stands at the place
module _ (s bs : List ℕ) (x : Option Read) (s' : List ℕ) (told_is : told x ≡ first bs) where
  module _ (y : Option Read) (e : Event) (q : x ≡ y) (d : told y ≡ e ∷ []) where
    at_place : (r : Result ℕ Refusal) → Steps s (e ∷ []) s' r → Steps s (first bs) s' r
    at_place r w = subst (λ (es : List Event). Steps s es s' r) (sym d ∙ sym (ap told q) ∙ told_is) w

    pub taken-step : (0 ≡ call_number s e) × (s' ≡ call_result s e) → Steps s (first bs) s' (Ok (size e))
    taken-step c = at_place (Ok (size e)) (step_taken s e s' c.0 c.1)

    pub refused-step : (f : Refusal) → (number f ≡ call_number s e) × (s' ≡ call_result s e) → Steps s (first bs) s' (Err f)
    refused-step f c = at_place (Err f) (step_refused s e s' f c.0 c.1)

  pub short_step : x ≡ None → s' ≡ s → Steps s (first bs) s' (Ok 0)
  short_step q same = subst (λ (es : List Event). Steps s es s' (Ok 0)) (sym (ap told q) ∙ told_is) (record { number = refl; store = same; used = refl })

-- ---- the loop
-- nothing, and one way after the other
pub goes_none : (s s' input : List ℕ) (at to : ℕ) → at ≤ length input → s' ≡ s → to ≡ at → Goes s s' input at to 0
goes_none s s' input at to h e q =
    rw (e, q) (record { within = h; few = omega arith; number = refl; store = refl; count = omega arith; bytes = refl })

pub goes_then : (s s₁ s₂ input : List ℕ) (a b c m n : ℕ) → Goes s s₁ input a b m → Goes s₁ s₂ input b c n → Goes s s₂ input a c (m + n)
goes_then s s₁ s₂ input a b c m n g h =
    record {
      within = h.within;
      few = omega (arith, g.few, h.few);
      number = h.number ∙ g.number;
      store = h.store ∙ g.store;
      count = omega (arith, g.count, h.count);
      bytes = omega (arith, g.bytes, h.bytes);
    }

-- events of which none is refused, and then others
after_append : (s : List ℕ) (es fs : List Event) → after s (es ++ fs) ≡ after (after s es) fs
after_append s [] fs = refl
after_append s (e ∷ es) fs = after_append (call_result s e) es fs

number_append : (s : List ℕ) (es fs : List Event) → EachAccepted s es → number_of s (es ++ fs) ≡ number_of (after s es) fs
number_append s [] fs a = refl
number_append s (e ∷ es) fs a = rw a.0 (number_append (call_result s e) es fs a.1)

accepted_append : (s : List ℕ) (es fs : List Event) → EachAccepted s es → accepted_of s (es ++ fs) ≡ es ++ accepted_of (after s es) fs
accepted_append s [] fs a = refl
accepted_append s (e ∷ es) fs a = rw a.0 (ap (λ (l : List Event). e ∷ l) (accepted_append (call_result s e) es fs a.1))

size_some : (e : Event) → 1 ≤ size e
size_some (point p) = omega arith
size_some (lost n) = omega arith

sizes_some : (es : List Event) → length es ≤ sum_over size es
sizes_some [] = omega arith
sizes_some (e ∷ es) = omega (arith, size_some e, sizes_some es)

pub goes_through : (s s' input : List ℕ) (from to : ℕ) (es : List Event) → EachAccepted s es → s' ≡ after s es → to ≤ length input
    → events_in (drop from input) ≡ es ++ events_in (drop to input) → to ≡ from + sum_over size es → Goes s s' input from to (length es)
goes_through s s' input from to es a t h q b =
    let fs : List Event = events_in (drop to input) in
    let k : accepted_of s (events_in (drop from input)) ≡ es ++ accepted_of s' fs =
    ap (accepted_of s) q ∙ accepted_append s es fs a ∙ ap (λ (u : List ℕ). es ++ accepted_of u fs) (sym t) in
    record {
      within = h;
      few = omega (arith, sizes_some es);
      number = ap (λ (u : List ℕ). number_of u fs) t ∙ sym (ap (number_of s) q ∙ number_append s es fs a);
      store = ap (λ (u : List ℕ). after u (accepted_of s' fs)) t ∙ sym (ap (after s) k ∙ after_append s es (accepted_of s' fs));
      count = omega (arith, ap length k, length-append es (accepted_of s' fs));
      bytes = omega (arith, ap (sum_over size) k, sum_append size es (accepted_of s' fs));
    }

err_number : (r : Result ℕ Refusal) → number_in (result_err r) ≡ numbered r
err_number (Ok n) = refl
err_number (Err e) = refl

module _ (s₀ s s' input : List ℕ) (at taken : ℕ) (r : Result ℕ Refusal) (g : Goes s₀ s input 0 at taken) (w : Steps s (first (drop at input)) s' r) where
  -- nothing more is taken
  goes_end : result_unwrap_or r 0 ≡ 0 → Appends s₀ (events_in input) s' (record { taken = taken; used = at; refused = result_err r })
  goes_end z =
      by_first (drop at input)
      (λ q. ends (events_none (drop at input) q) (rw q at w))
      (λ e q l f. refused e (rw q at w) l (events-next (drop at input) e q))
    where
      -- with es left, of which none is accepted
      ends_with : (es : List Event) → events_in (drop at input) ≡ es → accepted_of s es ≡ [] → numbered r ≡ number_of s es → s' ≡ s
          → Appends s₀ (events_in input) s' (record { taken = taken; used = at; refused = result_err r })
      ends_with es q k n t =
          let y : accepted_of s (events_in (drop at input)) ≡ [] = rw q k in
          record {
            number = err_number r ∙ n ∙ ap (number_of s) (sym q) ∙ g.number;
            store = t ∙ sym (ap (after s) y) ∙ g.store;
            taken = omega (arith, g.count, ap length y);
            used = omega (arith, g.bytes, ap (sum_over size) y);
          }

      ends : events_in (drop at input) ≡ [] → Steps s [] s' r → Appends s₀ (events_in input) s' (record { taken = taken; used = at; refused = result_err r })
      ends q v = ends_with [] q refl v.number v.store

      refused : (e : Event) → Steps s (e ∷ []) s' r → 4 ≤ size e → events_in (drop at input) ≡ e ∷ events_in (drop (size e) (drop at input))
          → Appends s₀ (events_in input) s' (record { taken = taken; used = at; refused = result_err r })
      refused e v l q =
          let c : call_number s e ≡ 0 → ⊥ =
          λ y. let u : result_unwrap_or r 0 ≡ size e + 0 = v.used ∙ rw y in omega arith in
          let k : accepted_of s (e ∷ []) ≡ [] = sym (left_kept (call_number s e) (e ∷ []) [] c) in
          ends_with (e ∷ events_in (drop (size e) (drop at input))) q
          (sym (left_kept (call_number s e) (e ∷ accepted_of (call_result s e) (events_in (drop (size e) (drop at input)))) [] c))
          (v.number ∙ sym (or_some (call_number s e) 0 c) ∙ or_some (call_number s e) (number_of (call_result s e) (events_in (drop (size e) (drop at input)))) c)
          (v.store ∙ ap (after s) k)

  -- by the size and the refusal that the code makes of a step
  pub goes_end_by : (k : ℕ) (x : Option Refusal) → k ≡ result_unwrap_or r 0 → x ≡ result_err r → k ≡ 0
      → Appends s₀ (events_in input) s' (record { taken = taken; used = at; refused = x })
  goes_end_by k x q e z = rw e (goes_end (sym q ∙ z))

-- one more
step_goes : (s s' input : List ℕ) (at : ℕ) (r : Result ℕ Refusal) → Steps s (first (drop at input)) s' r → (result_unwrap_or r 0 ≡ 0 → ⊥) → Goes s s' input at (at + result_unwrap_or r 0) 1
step_goes s s' input at r w nz =
    by_first (drop at input)
    (λ q. absurd (nz (w.used ∙ rw q)))
    (λ e q l f. one e (rw q at w) (omega (arith, length-drop at input)) (events-next (drop at input) e q))
  where
    one : (e : Event) → Steps s (e ∷ []) s' r → at + size e ≤ length input → events_in (drop at input) ≡ e ∷ events_in (drop (size e) (drop at input))
        → Goes s s' input at (at + result_unwrap_or r 0) 1
    one e v f q =
        by_test (eqb (call_number s e) 0)
        (λ t. let c : call_number s e ≡ 0 = eqb-true (call_number s e) 0 t in
        let u : result_unwrap_or r 0 ≡ size e + 0 = v.used ∙ rw c in
        let k : at + size e ≡ at + result_unwrap_or r 0 = omega arith in
        goes_through s s' input at (at + result_unwrap_or r 0) (e ∷ []) (c, tt) (v.store ∙ rw c) (omega arith)
        (q ∙ ap (λ (bs : List ℕ). e ∷ events_in bs) (drop-drop (size e) at input ∙ ap (λ (m : ℕ). drop m input) k)) (omega arith))
        (λ t. absurd (nz (v.used ∙ ap (sum_over size) (sym (left_kept (call_number s e) (e ∷ []) [] (eqb-false (call_number s e) 0 t))))))

goes_on : (s₀ s s' input : List ℕ) (at taken : ℕ) (r : Result ℕ Refusal) → Goes s₀ s input 0 at taken → Steps s (first (drop at input)) s' r → (result_unwrap_or r 0 ≡ 0 → ⊥)
    → (at < at + result_unwrap_or r 0) × Goes s₀ s' input 0 (at + result_unwrap_or r 0) (taken + 1)
goes_on s₀ s s' input at taken r g w nz =
    let h = step_goes s s' input at r w nz in
    (omega (arith, h.few), goes_then s₀ s s' input 0 at (at + result_unwrap_or r 0) taken 1 g h)

pub goes_on_by : (s₀ s s' input : List ℕ) (at taken : ℕ) (r : Result ℕ Refusal) (k : ℕ) → k ≡ result_unwrap_or r 0 → Goes s₀ s input 0 at taken → Steps s (first (drop at input)) s' r
    → (k ≡ 0 → ⊥) → (at < at + k) × Goes s₀ s' input 0 (at + k) (taken + 1)
goes_on_by s₀ s s' input at taken r k q g w nz = rw q (goes_on s₀ s s' input at taken r g w (λ z. nz (q ∙ z)))

-- ---- points in a row
take_two : {A : Type 0} (zs : List A) (j : ℕ) (x y : A) → suc j < length zs → take (suc (suc j)) (set (set zs j x) (suc j) y) ≡ take j zs ++ (x ∷ y ∷ [])
take_two [] j x y h = absurd (omega arith)
take_two (z ∷ []) zero x y h = absurd (omega arith)
take_two (z ∷ w ∷ zs) zero x y h = refl
take_two (z ∷ zs) (suc j) x y h = ap (λ l. z ∷ l) (take_two zs j x y (omega arith))

pairs_two : (zs ys : List ℤ) (k : ℕ) (x y : ℤ) → 2 * k ≤ length zs → ys ≡ take (2 * k) zs ++ (x ∷ y ∷ []) → pairs ys ≡ pairs (take (2 * k) zs) ++ (at x y ∷ [])
pairs_two zs ys k x y h e =
    let l : length (take (2 * k) zs) ≡ 2 * k = length-take-le (2 * k) zs h in
    pairs_split k ys (omega (arith, ap length e, length-append (take (2 * k) zs) (x ∷ y ∷ [])))
    ∙ ap₂ (λ (a b : List ℤ). pairs a ++ pairs b)
    (ap (take (2 * k)) e ∙ take_at (take (2 * k) zs) (x ∷ y ∷ []) (2 * k) l)
    (ap (drop (2 * k)) e ∙ drop_at (take (2 * k) zs) (x ∷ y ∷ []) (2 * k) l)

pub run_start : (input : List ℕ) (at : ℕ) (zs : List ℤ) → at ≤ length input → length zs ≡ 128 → Runs input at (record { numbers = zs; count = 0 })
run_start input at zs h l =
    record {
      long = l;
      few = omega arith;
      within = omega arith;
      events = ap (λ (k : ℕ). events_in (drop k input)) (let e : at ≡ at + 4 * 0 = omega arith in e);
    }

pub run_step : (input : List ℕ) (from k : ℕ) (zs zs' : List ℤ) (x : Option Read) (re im : ℤ) → Runs input from (record { numbers = zs; count = k }) → k < 64
    → told x ≡ first (drop (from + 4 * k) input) → x ≡ Some (Point re im) → zs' ≡ set (set zs (2 * k) re) (2 * k + 1) im
    → Runs input from (record { numbers = zs'; count = k + 1 })
run_step input from k zs zs' x re im g h t q e =
    let bs : List ℕ = drop (from + 4 * k) input in
    let f : first bs ≡ point (at re im) ∷ [] = sym t ∙ ap told q in
    let n : 4 ≤ length bs = by_first bs (λ z. let y : ◌≡◌ {A = ℕ} 0 1 = ap length (sym z ∙ f) in absurd (omega arith)) (λ o p l m. omega arith) in
    let two : take (2 * (k + 1)) zs' ≡ take (2 * k) zs ++ (re ∷ im ∷ []) =
    ap₂ (λ (m : ℕ) (l : List ℤ). take m l) (let a : 2 * (k + 1) ≡ suc (suc (2 * k)) = omega arith in a)
    (e ∙ ap (λ (m : ℕ). set (set zs (2 * k) re) m im) (let a : 2 * k + 1 ≡ suc (2 * k) = omega arith in a))
    ∙ take_two zs (2 * k) re im (omega (arith, g.long)) in
    let r : List Event = events_in (drop (from + 4 * (k + 1)) input) in
    let later : events_in bs ≡ point (at re im) ∷ r =
    events-next bs (point (at re im)) f
    ∙ ap (λ (l : List ℕ). point (at re im) ∷ events_in l) (drop-drop 4 (from + 4 * k) input ∙ ap (λ (m : ℕ). drop m input) (let a : from + 4 * k + 4 ≡ from + 4 * (k + 1) = omega arith in a)) in
    record {
      long = ap length e ∙ simp length-set g.long;
      few = omega arith;
      within = omega (arith, length-drop (from + 4 * k) input);
      events = g.events ∙ ap (λ (l : List Event). point_events (take (2 * k) zs) ++ l) later
          ∙ sym (append_assoc (point_events (take (2 * k) zs)) (point (at re im) ∷ []) r)
          ∙ ap (λ (l : List Event). l ++ r) (sym (ap (map point) (pairs_two zs (take (2 * (k + 1)) zs') k re im (omega (arith, g.long)) two) ∙ map-append point (pairs (take (2 * k) zs)) (at re im ∷ [])));
    }

points-size : (ps : List Place) → sum_over size (map point ps) ≡ 4 * length ps
points-size [] = refl
points-size (p ∷ ps) = omega (arith, points-size ps)

ok_number : (b : Result ⊤ Refusal) → is_ok b ≡ true → numbered b ≡ 0
ok_number (Ok u) h = refl
ok_number (Err e) h = absurd (false≢true h)

err_some : (b : Result ⊤ Refusal) → is_ok b ≡ false → numbered b ≡ 0 → ⊥
err_some (Ok u) h z = absurd (false≢true (sym h))
err_some (Err e) h z = some_number e z

-- the store takes them all, or is as it was
module _ (s s' input : List ℕ) (from : ℕ) (r : Run) (b : Result ⊤ Refusal) (g : Runs input from r) (e : numbered b ≡ points_number s (take (2 * r.count) r.numbers))
    (t : s' ≡ points_result s (take (2 * r.count) r.numbers)) where
  pub run_goes : is_ok b ≡ true → Goes s s' input from (from + 4 * r.count) r.count
  unfolding points_result
  run_goes z =
      let zs : List ℤ = take (2 * r.count) r.numbers in
      let es : List Event = point_events zs in
      let y : points_number s zs ≡ 0 = sym e ∙ ok_number b z in
      let l : length (pairs zs) ≡ r.count = omega (arith, pairs-length zs, length-take-le (2 * r.count) r.numbers (omega (arith, g.long, g.few))) in
      let k : length es ≡ r.count = length-map (pairs zs) point ∙ l in
      subst (Goes s s' input from (from + 4 * r.count)) k
      (goes_through s s' input from (from + 4 * r.count) es (points_free s zs y) (t ∙ sym (left_done (points_number s zs) (after s es) s y)) g.within g.events (omega (arith, points-size (pairs zs))))

  pub run_refused : is_ok b ≡ false → Goes s s' input from (from + 4 * 0) 0
  unfolding points_result
  run_refused h =
      let zs : List ℤ = take (2 * r.count) r.numbers in
      goes_none s s' input from (from + 4 * 0) (omega (arith, g.within)) (t ∙ sym (left_kept (points_number s zs) (after s (point_events zs)) s (λ z. err_some b h (e ∙ z)))) (omega arith)

-- ---- what the store holds then
taken_all : (s : List ℕ) (es : List Event) → taken s (accepted_of s es) ≡ accepted_of s es
taken_all s [] = refl
taken_all s (e ∷ es) =
    by_test (eqb (call_number s e) 0)
    (λ t. let c = eqb-true (call_number s e) 0 t in rw (c, c) (ap (λ (l : List Event). e ∷ l) (taken_all (call_result s e) es)))
    (λ t. rw (← left_kept (call_number s e) (e ∷ accepted_of (call_result s e) es) [] (eqb-false (call_number s e) 0 t)))

pub appended_read : AppendedRead
appended_read s es acc =
    subst (λ (l : List Event). Holds (after s (accepted_of s es)) (events s ++ l)) (taken_all s es) (appends_read s (accepted_of s es) acc)
