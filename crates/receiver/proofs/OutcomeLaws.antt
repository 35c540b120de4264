-- What the public functions hand back says the answer, place and state of the rules; and the ways that their code takes lead to it.
-- Assumes nothing.
use Prim.Native.Nat.{ℕ, zero, suc, ◌+◌, ◌-◌, ◌%◌, ◌^◌, ◌<◌, ◌≤◌, min}
use mathlib.Core.Path.{◌≡◌, refl, sym, ◌∙◌, ap, subst}
use mathlib.Core.Bool.{Bool, true, false, ◌&&◌, cond}
use mathlib.Core.List.{List, [], ◌∷◌}
use native.Mathlib.Omega.{arith}
use borrow.Author.Tests.{le-leb, lt-leb}
use lib.IntN.{ℤ}
use lib.Dec.{eqb, leb}
use Rattle.line.specs.declared.Point.{Point}
use Rattle.line.specs.Mode.{column, is_mode, is_role, is_state, width, guarded, capacity, face}
use Rattle.line.specs.Point.{at, in_range}
use Rattle.deciding.specs.Decide.{Region, State, Origin, decide}
use Rattle.coding.specs.Code.{group}
use Rattle.std.specs.Prelude.{Option, Some, None, Result, Ok, Err}
use Rattle.line.specs.declared.refusal.Refusal.{Refusal}
use Rattle.line.specs.declared.refusal.Refusal.TheVariants.{Coordinate, NoIntervals, Intervals}
use Rattle.line.specs.Refusal.{number, named, answered, need, or_next, accepted}
use Rattle.line.proofs.RefusalLaws.{or_some, Listed, listed_need, listed_next, answer_refused, some_number}
use Rattle.scrambler.specs.declared.Register.{Register}
use Rattle.scrambler.specs.declared.Descrambled.{Descrambled}
use Rattle.scrambler.specs.Register.{register, fresh, register_ok}
use Rattle.scrambler.specs.Scramble.{Datum}
use Rattle.scrambler.specs.Group.{descrambled}
use Rattle.scrambler.proofs.GroupLaws.{group_read, next_law, fill_law}
use Rattle.deciding.specs.declared.SquaredUnits.{SquaredUnits}
use Rattle.deciding.specs.declared.Decided.{Decided}
use Rattle.deciding.specs.Distance.{measured, decision}
use Rattle.receiver.specs.Reference.{Reference}
use Rattle.std.specs.Prelude.{None as none, Some as some}
use Rattle.receiver.specs.declared.Receiver.{Receiver}
use Rattle.receiver.specs.declared.Outcome.{Outcome}
use Rattle.receiver.specs.declared.Outcome.TheVariants.{Referenced, Bits, Gap}
use Rattle.line.specs.Refusal.{mode_refusal}
use Rattle.receiver.specs.Receiver.{receiver, fresh_receiver, Event, point, gap, is_fresh, fields_ok, state_refusal, has_room, event_refusal, refusal, refused, decoded, line_bits, state_answer, point_answer, event_answer, answer, intervals, place_after, forgotten, state_line, state_next, point_next, event_next, next}
use Rattle.receiver.specs.Outcome.{answer_of, state_of, Told, group_of, state_outcome, gap_outcome, point_outcome, event_outcome, outcome, if_room, Made, started}

-- THE NUMBERS ARE OF THE LIST

none_listed : Listed 0
none_listed h = absurd (h refl)

pub listed_mode : (m role : ℕ) → Listed (mode_refusal m role)
unfolding mode_refusal named
listed_mode m role = listed_need (is_mode m) 1 _ (λ h. refl) (listed_need (is_role m role) 2 0 (λ h. refl) none_listed)

listed_state : (m role : ℕ) (b : Bool) → Listed (or_next (mode_refusal m role) (need b 4 0))
unfolding named
listed_state m role b = listed_next _ _ (listed_mode m role) (listed_need b 4 0 (λ h. refl) none_listed)

-- WHAT AN OUTCOME SAYS

module _ (s : Receiver) where
  state_answered : (o : Reference) (y : ℕ) (d : SquaredUnits) → answer_of (width s.mode) (Ok (state_outcome s o y d)) ≡ state_answer s o y d.0
  unfolding state_outcome state_answer group_of descrambled
  state_answered none y d = refl
  state_answered (some x) y d =
      ap (λ (ds : List Datum). decoded (line_bits s.mode x y) ds d.0) (group_read s.mode s.role s.line (group s.mode (face s.mode x) y))

  point_answered : (p : Point) (d : Region) → answer_of (width s.mode) (Ok (point_outcome s (measured s.mode p d))) ≡ point_answer s p d
  unfolding point_outcome point_answer
  point_answered p (State y) = state_answered s.reference y _
  point_answered p Origin = refl

  event_answered : (e : Event) → answer_of (width s.mode) (Ok (event_outcome s e)) ≡ event_answer s e
  unfolding event_outcome event_answer decision
  event_answered (point p) = point_answered p (decide s.mode p)
  event_answered (gap n) = refl

  state_left : (o : Reference) (y : ℕ) (d : SquaredUnits) → state_of s (Ok (state_outcome s o y d)) ≡ state_next s o y
  unfolding state_outcome
  state_left none y d = refl
  state_left (some x) y d = refl

  point_left : (p : Point) (d : Region) → state_of s (Ok (point_outcome s (measured s.mode p d))) ≡ point_next s d
  unfolding point_outcome point_next
  point_left p (State y) = state_left s.reference y _
  point_left p Origin = refl

  event_left : (e : Event) → state_of s (Ok (event_outcome s e)) ≡ event_next s e
  unfolding event_outcome event_next decision
  event_left (point p) = point_left p (decide s.mode p)
  event_left (gap n) = refl

  point_placed : (d : Region) → (point_next s d).place.0 ≡ s.place.0 + 1
  unfolding point_next state_next forgotten
  point_placed (State y) = refl
  point_placed Origin = refl

  event_placed : (e : Event) → (event_next s e).place.0 ≡ s.place.0 + intervals e
  unfolding event_next forgotten
  event_placed (point p) = point_placed (decide s.mode p)
  event_placed (gap n) = refl

  answered_lem : (e : Event) (n : ℕ) → Listed n → answer_of (width s.mode) (answered n (event_outcome s e)) ≡ accepted n (event_answer s e) (refused n)
  answered_lem e zero h = event_answered e
  answered_lem e (suc n) h = ap refused (h (λ (z : suc n ≡ 0). omega arith))

  left : (e : Event) (n : ℕ) → state_of s (answered n (event_outcome s e)) ≡ accepted n (event_next s e) s
  left e zero = event_left e
  left e (suc n) = refl

  -- each number that an event can be refused with is one of the list
  listed : (e : Event) → Listed (refusal s e)
  unfolding refusal state_refusal event_refusal named
  listed (point p) = listed_next _ _ (listed_state _ _ _) (listed_need (in_range p) 8 _ (λ h. refl) (listed_need (has_room s 1) 16 0 (λ h. refl) none_listed))
  listed (gap n) = listed_next _ _ (listed_state _ _ _) (listed_need (leb 1 n) 9 _ (λ h. refl) (listed_need (has_room s n) 16 0 (λ h. refl) none_listed))

  placed : (e : Event) (n : ℕ) → (accepted n (event_next s e) s).place.0 ≡ accepted n (s.place.0 + intervals e) s.place.0
  placed e zero = event_placed e
  placed e (suc n) = refl

  -- the place of the state after an event is the place after it
  pub next-placed : (e : Event) → (next s e).place.0 ≡ place_after s e
  unfolding next place_after
  next-placed e = placed e (refusal s e)

  pub accepted-placed : (e : Event) → refusal s e ≡ 0 → (next s e).place.0 ≡ s.place.0 + intervals e
  unfolding place_after
  accepted-placed e z = next-placed e ∙ ap (λ (n : ℕ). accepted n (s.place.0 + intervals e) s.place.0) z

  pub told : (e : Event) → Told s e (outcome s e)
  unfolding outcome answer next
  told e =
      let l : state_of s (outcome s e) ≡ next s e = left e (refusal s e) in
      record { answer_is = answered_lem e (refusal s e) (listed e); place_is = ap (λ (t : Receiver). t.place.0) l ∙ next-placed e; state_is = l }

  pub told_of : (e : Event) (r : Result Outcome Refusal) → r ≡ outcome s e → Told s e r
  told_of e r q = subst (Told s e) (sym q) (told e)

-- THE WAYS OF THE CODE

module _ (m : ℕ) (h : Register) (o : Reference) where
  pub fields_none : o ≡ none → (eqb h.bits 0 && eqb h.held.0 0) && eqb h.count.0 0 ≡ fields_ok m o h
  unfolding fields_ok is_fresh
  fields_none is = rw is

  pub fields_some : (x : ℕ) (a b : Bool) → o ≡ some x → a ≡ is_state m x → b ≡ register_ok m h → a && b ≡ fields_ok m o h
  unfolding fields_ok
  fields_some x a b is p q = rw (is, p, q)

-- a full register
pub full_register : (m role g full : ℕ) (h : Register) (d : Descrambled) → full ≡ capacity m → h.held.0 ≡ full → d ≡ descrambled m role (register h.bits (capacity m) h.count.0) g → d ≡ descrambled m role h g
full_register m role g full h d e f q = q ∙ ap (λ (n : ℕ). descrambled m role (register h.bits n h.count.0) g) (sym (f ∙ e))

-- and one that is not full, without the guard: the bits as after a full one, of the data bits the first ones unsettled
pub filling_register : (m role g : ℕ) (h : Register) (d : Descrambled) (p u k : ℕ) → guarded m ≡ false → d ≡ descrambled (column m) role (register h.bits (capacity (column m)) 0) g
    → p ≡ d.plain % 2 ^ (width m - min (capacity m - h.held.0) (width m)) → u ≡ min (capacity m - h.held.0) (width m) → k ≡ min (h.held.0 + width m) (capacity m)
    → ◌≡◌ {A = Descrambled} (record { plain = p; unsettled = record { 0 = u }; next = register d.next.bits k d.next.count.0 }) (descrambled m role h g)
filling_register m role g h d p u k f e ep eu ek =
    let q = next_law m role h.bits 0 g d e f in
    let plain = ep ∙ ap (λ (v : Descrambled). v.plain % 2 ^ (width m - min (capacity m - h.held.0) (width m))) q in
    (λ i. record { plain = plain i; unsettled = record { 0 = eu i }; next = register (q i).next.bits (ek i) (q i).next.count.0 })
    ∙ sym (fill_law m role h.bits h.held.0 0 h.count.0 g f)

-- no room, and room
module _ (s : Receiver) (n : ℕ) (r : Outcome) where
  pub room_none : 4294967295 - s.place.0 < n → Err Intervals ≡ if_room s n r
  unfolding if_room has_room
  room_none h = rw (lt-leb (s.place.0 + n) 4294967295 (omega arith))

  pub room_some : s.place.0 ≤ 4294967295 → n ≤ 4294967295 - s.place.0 → Ok r ≡ if_room s n r
  unfolding if_room has_room
  room_some b h = rw (le-leb (s.place.0 + n) 4294967295 (omega arith))

-- the outcomes from their parts
pub lost_law : (s : Receiver) (n : ℕ) (h : Register) (t : Receiver) → s.place.0 ≤ 4294967295 → n ≤ 4294967295 - s.place.0 → h ≡ fresh
    → t ≡ receiver s.mode s.role none h (s.place.0 + n) → Ok (Gap (record { 0 = n }) t) ≡ if_room s n (gap_outcome s n)
unfolding forgotten
lost_law s n h t b k e q = rw (q, e) (room_some s n (gap_outcome s n) b k)

module _ (s : Receiver) (o : Reference) (y : ℕ) (u : SquaredUnits) (t : Receiver) (b : s.place.0 ≤ 4294967295) (k : 1 ≤ 4294967295 - s.place.0) where
  pub reference_law : o ≡ none → t ≡ receiver s.mode s.role (some y) s.line (s.place.0 + 1) → Ok (Referenced u t) ≡ if_room s 1 (state_outcome s o y u)
  unfolding state_outcome state_next state_line
  reference_law is q = rw (q, is) (room_some s 1 _ b k)

  pub bits_law : (x g : ℕ) (d : Descrambled) → o ≡ some x → g ≡ group s.mode (face s.mode x) y → d ≡ descrambled s.mode s.role s.line g
      → t ≡ receiver s.mode s.role (some y) d.next (s.place.0 + 1)
      → Ok (Bits (record { line = g; plain = d.plain; unsettled = d.unsettled }) u t) ≡ if_room s 1 (state_outcome s o y u)
  unfolding state_outcome state_next state_line group_of descrambled
  bits_law x g d is e q r = rw (r, q, e, is) (room_some s 1 _ b k)

-- a refused event, and an accepted one
last_room : (b : Bool) (r : Outcome) → cond b (Ok r) (Err Intervals) ≡ answered (need b 16 0) r
unfolding named
last_room true r = refl
last_room false r = refl

module _ (s : Receiver) where
  pub outcome_fault : (e : Event) (f : Refusal) → number f ≡ state_refusal s → Err f ≡ outcome s e
  unfolding outcome refusal
  outcome_fault e f a = answer_refused f (or_next (state_refusal s) (event_refusal s e)) (event_outcome s e) (a ∙ or_some (state_refusal s) _ (λ z. some_number f (a ∙ z)))

  module _ (z : state_refusal s ≡ 0) where
    pub gap_none : (n : ℕ) → n < 1 → Err NoIntervals ≡ outcome s (gap n)
    unfolding outcome refusal event_refusal named
    gap_none n h = rw (z, lt-leb 1 n h)

    pub gap_some : (n : ℕ) (r : Result Outcome Refusal) → 1 ≤ n → r ≡ if_room s n (gap_outcome s n) → r ≡ outcome s (gap n)
    unfolding outcome refusal event_refusal event_outcome if_room
    gap_some n r h q = rw (z, le-leb 1 n h) (q ∙ last_room (has_room s n) (gap_outcome s n))

    -- the coordinates as they were passed on
    module _ (re im : ℤ) (i : Bool) (re' im' : ℤ) (b : i ≡ in_range (at re' im')) (x : re' ≡ re) (y : im' ≡ im) where
      pub point_far : i ≡ false → Err Coordinate ≡ outcome s (point (at re im))
      unfolding outcome refusal event_refusal named
      point_far h = rw (z, ← x, ← y, ← b, h)

      module _ (h : i ≡ true) (d : Option Decided) (q : d ≡ decision s.mode (at re' im')) where
        point_in : if_room s 1 (point_outcome s d) ≡ outcome s (point (at re im))
        unfolding outcome refusal event_refusal event_outcome if_room
        point_in = rw (z, ← x, ← y, ← b, h, ← q) (last_room (has_room s 1) (point_outcome s d))

        point_as : (c : Option Decided) (r : Result Outcome Refusal) → d ≡ c → r ≡ if_room s 1 (point_outcome s c) → r ≡ outcome s (point (at re im))
        point_as c r is e = e ∙ ap (λ (u : Option Decided). if_room s 1 (point_outcome s u)) (sym is) ∙ point_in

        pub point_state : (u : Decided) (r : Result Outcome Refusal) → d ≡ Some u → r ≡ if_room s 1 (state_outcome s s.reference u.state u.distance) → r ≡ outcome s (point (at re im))
        unfolding point_outcome
        point_state u r is e = point_as (Some u) r is e

        pub point_origin : (r : Result Outcome Refusal) → d ≡ None → r ≡ if_room s 1 (gap_outcome s 1) → r ≡ outcome s (point (at re im))
        unfolding point_outcome
        point_origin r is e = point_as None r is e

-- A FRESH RECEIVER

module _ (m role : ℕ) where
  made : (n : ℕ) → Listed n → n ≡ mode_refusal m role → Made m role (answered n (fresh_receiver m role))
  made zero h e = record { number = e; made = ap (λ (k : ℕ). accepted k (fresh_receiver m role ∷ []) []) e }
  made (suc n) h e = record { number = h (λ (z : suc n ≡ 0). omega arith) ∙ e; made = ap (λ (k : ℕ). accepted k (fresh_receiver m role ∷ []) []) e }

  pub both_started : (r : Result Receiver Refusal) → r ≡ started m role → (r ≡ started m role) × Made m role r
  unfolding started
  both_started r q = (q, subst (Made m role) (sym q) (made (mode_refusal m role) (listed_mode m role) refl))

  pub started_refused : (f : Refusal) → number f ≡ mode_refusal m role → Err f ≡ started m role
  unfolding started
  started_refused f e = answer_refused f (mode_refusal m role) (fresh_receiver m role) e

  pub made_refused : (f : Refusal) → number f ≡ mode_refusal m role → Made m role (Err f)
  made_refused f e = (both_started (Err f) (started_refused f e)).1

  pub started_ready : (h : Register) → 0 ≡ mode_refusal m role → h ≡ fresh → Ok (receiver m role none h 0) ≡ started m role
  unfolding started fresh_receiver
  started_ready h z q = rw (← z, q)

  pub made_ready : (h : Register) → 0 ≡ mode_refusal m role → h ≡ fresh → Made m role (Ok (receiver m role none h 0))
  made_ready h z q = (both_started (Ok (receiver m role none h 0)) (started_ready h z q)).1
