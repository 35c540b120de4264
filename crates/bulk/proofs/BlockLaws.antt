-- A block is the single calls one after the other, and the ways of its code lead to that. Assumes nothing.
use Prim.Native.Nat.{ℕ, zero, suc, ◌+◌, ◌*◌, ◌-◌, ◌/◌, ◌%◌, ◌^◌, ◌<◌, ◌≤◌, min}
use mathlib.Core.Path.{◌≡◌, refl, sym, ap, ◌∙◌, subst}
use mathlib.Core.Bool.{Bool, true, false, ◌&&◌, ◌||◌, not, cond, and_assoc}
use mathlib.Core.List.{List, [], ◌∷◌, map}
use mathlib.Core.Logic.{⊎_elim}
use native.Mathlib.Omega.{arith}
use borrow.Author.Tests.{le-leb, lt-leb, leb-true}
use lib.Dec.{T, eqb, leb, eqb→eq, eqb_refl}
use lib.IntN.{ℤ, pos}
use lib.ListN.{length, get_or, set, drop, length-drop, length-set}
use mir.Syntax.{w16}
use mir.Val.{SFits}
use Rattle.line.specs.declared.Point.{Point}
use Rattle.deciding.specs.declared.SquaredUnits.{SquaredUnits}
use Rattle.line.specs.Table.{every, Tabled}
use Rattle.line.specs.Mode.{is_mode, width, guarded, capacity, is_state, face}
use Rattle.line.specs.Point.{at, pairs, coordinate_in, in_range, coordinates_in, is_origin, sent_point}
use Rattle.deciding.specs.Decide.{Region, State, Origin, decide}
use Rattle.deciding.specs.Distance.{squared_distance, distance}
use Rattle.deciding.specs.Sizes.{ring_of, ring_index}
use Rattle.coding.specs.Code.{group}
use Rattle.coding.specs.Rows.{row_index, with_row, Rows}
use Rattle.deciding.proofs.DecideLaws.{Off}
use Rattle.deciding.proofs.DistanceLaws.{sent_law}
use Rattle.coding.proofs.RowLaws.{looked_up as row-looked-up}
use Rattle.std.specs.Prelude.{Result, Ok, Err}
use Rattle.line.specs.declared.refusal.Refusal.{Refusal}
use Rattle.line.specs.Refusal.{number, need, or_next, accepted}
use Rattle.line.proofs.RefusalLaws.{some_number, answer_given, answer_refused, need_met, need_rest, need_intro, next-first, next_rest, left_done, left_kept}
use Rattle.line.proofs.Tests.{lt_or_ge}
use Rattle.line.proofs.TableLaws.{and_left, and_right, and_intro, is_true}
use Rattle.line.proofs.PointLaws.{pairs-step, pairs_end, pairs-length, sent_round}
use Rattle.deciding.proofs.RingLaws.{looked_up, origin_none}
use Rattle.scrambler.specs.declared.Register.{Register}
use Rattle.scrambler.specs.declared.Descrambled.{Descrambled}
use Rattle.scrambler.specs.Register.{register, fresh, register_ok}
use Rattle.scrambler.specs.Group.{descrambled}
use Rattle.scrambler.proofs.GroupLaws.{descrambled_small, after_full, fill_law}
use Rattle.receiver.specs.Reference.{Reference}
use Rattle.std.specs.Prelude.{None as none, Some as some}
use Rattle.receiver.specs.declared.Receiver.{Receiver}
use Rattle.receiver.specs.Receiver.{receiver, point, refused, lost, fields_ok, state_refusal, has_room, event_refusal, refusal, state_answer, point_answer, event_answer, answer, forgotten, state_line, state_next, point_next, event_next, next}
use Rattle.receiver.specs.Calls.{after, EachAccepted, Heard, answers}
use Rattle.receiver.proofs.OutcomeLaws.{accepted-placed}
use Rattle.receiver.proofs.CallLaws.{accepted_valid, accepted-off, handed_back_passes, same_next, heard-accepted, heard_all}
use Rattle.receiver.proofs.TurnLaws.{bits-group}
use Rattle.bulk.specs.declared.Step.{Step}
use Rattle.bulk.specs.declared.Settled.{Settled}
use Rattle.bulk.specs.Hearing.{step, state_step, left, AsLong, Hearing, Holds, Ready, later_at, settled_point, plain_at, held_next}
use Rattle.bulk.specs.Block.{Given, points_of, plain_byte, answers_to, Parts, parts, wrote, Lent, sizes, lent_ok, block_refusal, coordinate_fault, places_ok, fault_of, FoundSo, Told, block, parts_after, JustWhen, AllHeard}

-- ONE POINT

-- what a point gives that nothing refuses
module _ (s : Receiver) (p : Point) (z : refusal s (point p) ≡ 0) where
  own_refusal : event_refusal s (point p) ≡ 0
  unfolding refusal
  own_refusal = next_rest (state_refusal s) _ z

  pub has_place : s.place.0 < 4294967295
  unfolding event_refusal has_room
  has_place =
      let r : T (leb (s.place.0 + 1) 4294967295) = need_met (has_room s 1) 15 0 (need_rest (in_range p) 7 _ own_refusal) in
      let l : s.place.0 + 1 ≤ 4294967295 = leb-true _ _ (is_true _ r) in
      omega arith

  abbrev taken : Step
  taken = step (answer s (point p)) (next s (point p))

  step_as : (d : Region) → d ≡ decide s.mode p → step (point_answer s p d) (point_next s d) ≡ taken
  unfolding answer event_answer next event_next
  step_as d e =
      ap (λ (u : Region). step (point_answer s p u) (point_next s u)) e
      ∙ ap (λ (n : ℕ). step (accepted n (point_answer s p (decide s.mode p)) (refused n)) (accepted n (point_next s (decide s.mode p)) s)) (sym z)

  -- the group of two states is the number of its bits
  state_step_lem : (o : Reference) (y : ℕ) (u : SquaredUnits) → T (is_state s.mode y) → T (fields_ok s.mode o s.line) → state_step s o y u ≡ step (state_answer s o y u.0) (state_next s o y)
  unfolding state_step state_answer descrambled fields_ok
  state_step_lem none y u h t = refl
  state_step_lem (some x) y u h t =
      ap (λ (g : ℕ). record { line = g; plain = plain_byte (state_answer s (some x) y u.0); distance = u; next = state_next s (some x) y })
      (sym (bits-group s.mode (accepted_valid s (point p) z).mode x y (and_left (is_state s.mode x) (register_ok s.mode s.line) t) h))

  decided_step : (y : ℕ) (u : SquaredUnits) → State y ≡ decide s.mode p → u.0 ≡ distance s.mode y p → is_origin p ≡ false → state_step s s.reference y u ≡ taken
  unfolding point_answer point_next
  decided_step y u e q o =
      state_step_lem s.reference y u (subst (Off s.mode) (sym e) (accepted-off s p z o)) (accepted_valid s (point p) z).fields
      ∙ ap (λ (n : ℕ). step (state_answer s s.reference y n) (state_next s s.reference y)) q ∙ step_as (State y) e

-- its step, by what it is decided as
module _ (s : Receiver) (re im : ℤ) (z : refusal s (point (at re im)) ≡ 0) (origin : Bool) (e : origin ≡ is_origin (at re im)) where
  pub hear_state : (ring : List ℕ) (n : ℕ) (u : SquaredUnits) (r : Step) → origin ≡ false → ring ≡ ring_of s.mode → n ≡ get_or ring (ring_index s.mode re im) 0 → u.0 ≡ distance s.mode n (at re im) → r ≡ state_step s s.reference n u → r ≡ taken s (at re im) z
  hear_state ring n u r h i q d t = t ∙ decided_step s (at re im) z n u (looked_up s.mode re im ring n i q (sym e ∙ h)) d (sym e ∙ h)

  pub hear_origin : (r : Step) → origin ≡ true → r ≡ step (lost 1) (forgotten s 1) → r ≡ taken s (at re im) z
  unfolding point_answer point_next
  hear_origin r h t = t ∙ step_as s (at re im) z Origin (origin_none s.mode re im (sym e ∙ h))

-- a decided point and the origin from their parts
module _ (s t : Receiver) (y : ℕ) (u : SquaredUnits) (o : Reference) where
  pub take_reference : o ≡ none → t ≡ receiver s.mode s.role (some y) s.line (s.place.0 + 1)
      → ◌≡◌ {A = Step} (record { line = 16; plain = 0; distance = u; next = t }) (state_step s o y u)
  unfolding state_step state_next state_line
  take_reference is q = rw (q, is)

  pub take-bits : (x g : ℕ) (d : Descrambled) (rows : List ℕ) → o ≡ some x → Rows s.mode rows → g ≡ with_row s.mode (get_or rows (row_index s.mode x y) 0) y → d ≡ descrambled s.mode s.role s.line g
      → t ≡ receiver s.mode s.role (some y) d.next (s.place.0 + 1)
      → ◌≡◌ {A = Step} (record { line = g; plain = 16 * d.unsettled.0 + d.plain; distance = u; next = t }) (state_step s o y u)
  unfolding state_step state_next state_line descrambled
  take-bits x g d rows is t e q r =
      let f : g ≡ group s.mode (face s.mode x) y = e ∙ row-looked-up s.mode x y rows t in
      rw (r, q, f, is)

pub lose_law : (s t : Receiver) (h : Register) → h ≡ fresh → t ≡ receiver s.mode s.role none h (s.place.0 + 1)
    → ◌≡◌ {A = Step} (record { line = 17; plain = 0; distance = record { 0 = 0 }; next = t }) (step (lost 1) (forgotten s 1))
unfolding forgotten
lose_law s t h e q = rw (q, e)

pub plain_fits : (m role g : ℕ) (h : Register) (d : Descrambled) → d ≡ descrambled m role h g → (d.plain < 16) × (d.unsettled.0 ≤ 4)
plain_fits m role g h d e = subst (λ (c : Descrambled). (c.plain < 16) × (c.unsettled.0 ≤ 4)) (sym e) (descrambled_small m role h g)

-- ALL POINTS

pub accepts : (s : Receiver) (p : Point) → state_refusal s ≡ 0 → T (in_range p) → s.place.0 < 4294967295 → refusal s (point p) ≡ 0
unfolding refusal event_refusal has_room
accepts s p z i l =
    rw z (need_intro (in_range p) 8 _ i (rw (le-leb (s.place.0 + 1) 4294967295 (omega arith))))

-- none of the single calls is refused
pub accepted_one_by_one : (s : Receiver) (ps : List Point) → state_refusal s ≡ 0 → T (every in_range ps) → s.place.0 + length ps ≤ 4294967295 → EachAccepted s (map point ps)
accepted_one_by_one s [] z i l = tt
accepted_one_by_one s (p ∷ ps) z i l =
    let a : refusal s (point p) ≡ 0 = accepts s p z (and_left (in_range p) _ i) (omega arith) in
    let q = accepted-placed s (point p) a in
    (a, accepted_one_by_one (next s (point p)) ps (handed_back_passes s (point p) a) (and_right (in_range p) _ i) (omega arith))

-- ONE BY ONE

-- the numbers from 7 on, in their order
module _ (s : Receiver) (g : Given) (n : Lent) where
  abbrev room_number : ℕ
  room_number = need (has_room s (length (points_of g))) 16 0

  abbrev range_number : ℕ
  range_number = need (every in_range (points_of g)) 8 room_number

  pub lent_is : places_ok (length g.numbers) n ≡ lent_ok g n
  unfolding lent_ok places_ok
  lent_is = rw (pairs-length g.numbers)

  module _ (z : block_refusal s g n ≡ 0) where
    passes : state_refusal s ≡ 0
    unfolding block_refusal
    passes = next-first (state_refusal s) _ z

    lent : need (lent_ok g n) 7 (need g.finite 18 range_number) ≡ 0
    unfolding block_refusal
    lent = next_rest (state_refusal s) _ z

    are_numbers : need g.finite 18 range_number ≡ 0
    are_numbers = need_rest (lent_ok g n) 6 _ lent

    in_range_lem : range_number ≡ 0
    in_range_lem = need_rest g.finite 17 _ are_numbers

    pub all_finite : T g.finite
    all_finite = need_met g.finite 17 _ are_numbers

    pub all_in_range : T (every in_range (points_of g))
    all_in_range = need_met (every in_range (points_of g)) 7 _ in_range_lem

    places : T (places_ok (length g.numbers) n)
    places = subst T (sym lent_is) (need_met (lent_ok g n) 6 _ lent)

    pub has_places : ((length g.numbers / 2 ≤ n.line) × (length g.numbers / 2 ≤ n.plain)) × (length g.numbers / 2 ≤ n.distance)
    unfolding places_ok
    has_places =
        let k : ℕ = length g.numbers / 2 in
        let even : Bool = eqb (length g.numbers % 2) 0 in
        let u = and_left ((even && leb k n.line) && leb k n.plain) (leb k n.distance) places in
        let v = and_left (even && leb k n.line) (leb k n.plain) u in (
          (
            leb-true _ _ (is_true _ (and_right even (leb k n.line) v)),
            leb-true _ _ (is_true _ (and_right (even && leb k n.line) (leb k n.plain) u)),
          ),
          leb-true _ _ (is_true _ (and_right ((even && leb k n.line) && leb k n.plain) (leb k n.distance) places)),
        )

    -- no single call of an accepted block is refused
    pub one_by_one : EachAccepted s (map point (points_of g))
    unfolding has_room
    one_by_one =
        accepted_one_by_one s (points_of g) passes all_in_range
        (leb-true _ _ (is_true _ (need_met (has_room s (length (points_of g))) 15 0 (need_rest (every in_range (points_of g)) 7 _ in_range_lem))))

each_in_range : (s : Receiver) (ps : List Point) → EachAccepted s (map point ps) → T (every in_range ps)
unfolding event_refusal
each_in_range s [] f = tt
each_in_range s (p ∷ ps) f = and_intro (in_range p) _ (need_met (in_range p) 7 _ (own_refusal s p f.0)) (each_in_range (next s (point p)) ps f.1)

pub each_has_place : (s : Receiver) (ps : List Point) → s.place.0 ≤ 4294967295 → EachAccepted s (map point ps) → s.place.0 + length ps ≤ 4294967295
each_has_place s [] l f = omega arith
each_has_place s (p ∷ ps) l f =
    let q = accepted-placed s (point p) f.0 in
    let h = has_place s p f.0 in
    let i = each_has_place (next s (point p)) ps (omega arith) f.1 in
    omega arith

-- and where none is, the state passes, the bytes suffice and all is finite, the block is accepted. The place is a u32.
pub at_once : (s : Receiver) (g : Given) (n : Lent) → state_refusal s ≡ 0 → s.place.0 ≤ 4294967295 → T (lent_ok g n) → T g.finite → EachAccepted s (map point (points_of g)) → block_refusal s g n ≡ 0
unfolding block_refusal has_room
at_once s g n z l t u f =
    rw z (need_intro (lent_ok g n) 7 _ t (need_intro g.finite 18 _ u (need_intro (every in_range (points_of g)) 8 _ (each_in_range s (points_of g) f)
    (rw (le-leb (s.place.0 + length (points_of g)) 4294967295 (each_has_place s (points_of g) l f))))))

pub just_when : JustWhen
just_when s g n l =
    (λ z. (passes s g n z, need_met (lent_ok g n) 6 _ (lent s g n z), all_finite s g n z, one_by_one s g n z), λ h. at_once s g n h.0 l h.1 h.2 h.3)

pub all_heard : AllHeard
all_heard s g n z = heard_all s (map point (points_of g)) (one_by_one s g n z)

-- THE WAYS OF THE CODE

-- the points of an even count of numbers are in range when each number is
each_of : (zs : List ℤ) → length zs % 2 ≡ 0 → coordinates_in zs ≡ every in_range (pairs zs)
unfolding in_range
each_of [] h = refl
each_of (x ∷ []) h = absurd (omega arith)
each_of (x ∷ y ∷ zs) h =
    sym (and_assoc (coordinate_in x) (coordinate_in y) (coordinates_in zs)) ∙ ap (λ (t : Bool). (coordinate_in x && coordinate_in y) && t) (each_of zs (omega arith))

-- the numbers in the code's order
module _ (s : Receiver) (g : Given) (n : Lent) where
  even_count : places_ok (length g.numbers) n ≡ true → length g.numbers % 2 ≡ 0
  unfolding places_ok
  even_count e =
      let k : ℕ = length g.numbers / 2 in
      let even : Bool = eqb (length g.numbers % 2) 0 in
      eqb→eq _ 0 (and_left even (leb k n.line) (and_left (even && leb k n.line) (leb k n.plain) (and_left ((even && leb k n.line) && leb k n.plain) (leb k n.distance) (subst T (sym e) tt))))

  from_18_on : length g.numbers % 2 ≡ 0 → or_next (coordinate_fault g) (need (has_room s (length g.numbers / 2)) 16 0) ≡ need g.finite 18 (range_number s g n)
  unfolding coordinate_fault
  from_18_on e =
      rw (each_of g.numbers e, ← pairs-length g.numbers)
      (by g.finite (every in_range (points_of g)) (room_number s g n))
    where
      by : (a b : Bool) (k : ℕ) → or_next (need a 18 (need b 8 0)) k ≡ need a 18 (need b 8 k)
      by true true k = refl
      by true false k = refl
      by false b k = refl

  pub fault_law : fault_of s (length g.numbers) (coordinate_fault g) n ≡ block_refusal s g n
  unfolding fault_of block_refusal
  fault_law = ap (or_next (state_refusal s)) (by (places_ok (length g.numbers) n) refl ∙ ap (λ (t : Bool). need t 7 (need g.finite 18 (range_number s g n))) lent_is')
    where
      lent_is' : places_ok (length g.numbers) n ≡ lent_ok g n
      lent_is' = lent_is s g n

      by : (t : Bool) → places_ok (length g.numbers) n ≡ t → need t 7 (or_next (coordinate_fault g) (need (has_room s (length g.numbers / 2)) 16 0)) ≡ need t 7 (need g.finite 18 (range_number s g n))
      by true e = from_18_on (even_count e)
      by false e = refl

  -- an accepted block has whole points
  pub whole_points : block_refusal s g n ≡ 0 → length g.numbers % 2 ≡ 0
  whole_points z = even_count (is_true _ (places s g n z))

  -- each coordinate of an accepted block is in range
  pub each_coordinate : block_refusal s g n ≡ 0 → T (coordinates_in g.numbers)
  each_coordinate z = subst T (sym (each_of g.numbers (whole_points z))) (all_in_range s g n z)

pub found_so : FoundSo
found_so s g n = fault_law s g n

-- the place, as the code asks for it
pub room_is : (s : Receiver) (n : ℕ) → s.place.0 ≤ 4294967295 → leb n (4294967295 - s.place.0) ≡ has_room s n
unfolding has_room
room_is s n l =
    ⊎_elim (λ h. lt-leb n (4294967295 - s.place.0) h ∙ sym (lt-leb (s.place.0 + n) 4294967295 (omega arith)))
    (λ h. le-leb n (4294967295 - s.place.0) h ∙ sym (le-leb (s.place.0 + n) 4294967295 (omega arith))) (lt_or_ge (4294967295 - s.place.0) n)

-- where nothing before number 16 refuses
pub fault_room : (s : Receiver) (count f : ℕ) (n : Lent) (lent : Bool) (r : ℕ) → s.place.0 ≤ 4294967295
    → lent ≡ ((eqb (count % 2) 0 && leb (count / 2) n.line) && leb (count / 2) n.plain) && leb (count / 2) n.distance
    → 0 ≡ state_refusal s → 0 ≡ need lent 7 0 → 0 ≡ f → r ≡ need (leb (count / 2) (4294967295 - s.place.0)) 16 0 → r ≡ fault_of s count f n
unfolding fault_of places_ok
fault_room s count f n lent r l a x y z e =
    e ∙ rw (← a, room_is s (count / 2) l) (by (state_refusal s) lent f (need (has_room s (count / 2)) 16 0) x y z)
  where
    by : (k : ℕ) (p : Bool) (f last : ℕ) → 0 ≡ k → 0 ≡ need p 7 0 → 0 ≡ f → last ≡ or_next k (need p 7 (or_next f last))
    by zero true zero last i j h = refl
    by zero true (suc f) last i j h = absurd (omega arith)
    by zero false f last i j h = absurd (omega arith)
    by (suc k) p f last i j h = absurd (omega arith)

-- the call: refused, and taken
module _ (s : Receiver) (g : Given) (b : Parts) where
  abbrev Done : Result Receiver Refusal → Parts → Type 0
  Done r c = ((r ≡ block s g (sizes b)) × (c ≡ parts_after s g b)) × Told s g (sizes b) r

  pub refused_law : (f : Refusal) → number f ≡ block_refusal s g (sizes b) → Done (Err f) b
  unfolding block parts_after
  refused_law f e =
      let some : block_refusal s g (sizes b) ≡ 0 → ⊥ = λ z. some_number f (e ∙ z) in (
        (answer_refused f _ (after s (map point (points_of g))) e, left_kept _ (wrote b 0 (answers_to s (points_of g))) b some),
        record { number_is = e; state_is = left_kept _ (after s (map point (points_of g))) s some },
      )

  pub taken_law : (t : Receiver) (c : Parts) → block_refusal s g (sizes b) ≡ 0 → t ≡ after s (map point (points_of g)) → c ≡ wrote b 0 (answers_to s (points_of g)) → Done (Ok t) c
  unfolding block parts_after
  taken_law t c z et ec = (
    (ap Ok et ∙ answer_given _ (after s (map point (points_of g))) z, ec ∙ left_done _ (wrote b 0 (answers_to s (points_of g))) b z),
    record { number_is = sym z; state_is = et ∙ left_done _ (after s (map point (points_of g))) s z },
  )

  -- all three parts hold a place for each point
  pub holds : block_refusal s g (sizes b) ≡ 0 → Holds g.numbers b
  holds z = let h = has_places s g (sizes b) z in record { line = h.0.0; plain = h.0.1; distance = h.1 }

-- THE PASS THAT READS

pub hearing_start : (s : Receiver) (b : Parts) (zs : List ℤ) (j : ℕ) → j ≤ length zs / 2 → EachAccepted s (map point (left zs j)) → Hearing s b zs j s b j
hearing_start s b zs j i f =
    record { on = omega arith; place = i; mode_stays = refl; as_long = record { line = refl; plain = refl; distance = refl }; free = f; state_left = refl; parts-left = refl }

long_then : {b c d : Parts} → AsLong b c → AsLong c d → AsLong b d
long_then x y = record { line = y.line ∙ x.line; plain = y.plain ∙ x.plain; distance = y.distance ∙ x.distance }

pub hearing_then : {s t u : Receiver} {b c d : Parts} {zs : List ℤ} {j k m : ℕ} → Hearing s b zs j t c k → Hearing t c zs k u d m → Hearing s b zs j u d m
hearing_then x y =
    record {
      on = omega (arith, x.on, y.on);
      place = y.place;
      mode_stays = y.mode_stays ∙ x.mode_stays;
      as_long = long_then x.as_long y.as_long;
      free = y.free;
      state_left = y.state_left ∙ x.state_left;
      parts-left = y.parts-left ∙ x.parts-left;
    }

-- what one point puts into the parts
abbrev stepped : Parts → ℕ → Step → Parts
stepped b k r = parts (set b.line k r.line) (set b.plain k r.plain) (set b.distance k r.distance.0)

long_step : (b c : Parts) (k : ℕ) (r : Step) → c ≡ stepped b k r → AsLong b c
long_step b c k r e =
    record {
      line = ap (λ (p : Parts). length p.line) e ∙ length-set b.line k r.line;
      plain = ap (λ (p : Parts). length p.plain) e ∙ length-set b.plain k r.plain;
      distance = ap (λ (p : Parts). length p.distance) e ∙ length-set b.distance k r.distance.0;
    }

-- one point more in each of them
parts-step : (t : Receiver) (p : Point) (ps rest : List Point) (c d : Parts) (k : ℕ) (r : Step) → refusal t (point p) ≡ 0 → r ≡ step (answer t (point p)) (next t (point p)) → ps ≡ p ∷ rest
    → d ≡ stepped c k r → wrote d (k + 1) (answers_to r.next rest) ≡ wrote c k (answers_to t ps)
parts-step t p ps rest c d k r z u q e =
    ap (λ (b : Parts). wrote b (k + 1) (answers_to r.next rest)) e
    ∙ ap (λ (x : Step). wrote (stepped c k x) (k + 1) (answers_to x.next rest)) u
    ∙ ap (λ (n : ℕ). wrote (stepped c k (step (answer t (point p)) (next t (point p)))) n (answers_to (next t (point p)) rest)) (let z : k + 1 ≡ suc k = omega arith in z)
    ∙ ap (λ (xs : List Heard). wrote c k (answers xs)) (sym (heard-accepted t (point p) (map point rest) z))
    ∙ ap (λ (qs : List Point). wrote c k (answers_to t qs)) (sym q)

module _ (s : Receiver) (b : Parts) (zs : List ℤ) (j : ℕ) (t : Receiver) (c : Parts) (k : ℕ) (h : Hearing s b zs j t c k) where
  abbrev here : Point
  here = at (get_or zs (2 * k) (pos 0)) (get_or zs (2 * k + 1) (pos 0))

  -- the rows of the first state serve, and what is left can be done from here
  hearing_rows : (rows : List ℕ) → Rows s.mode rows → Rows t.mode rows
  hearing_rows rows r = subst (λ (m : ℕ). Rows m rows) (sym h.mode_stays) r

  hearing_here : Hearing t c zs k t c k
  hearing_here = hearing_start t c zs k h.place h.free

  pub hearing_holds : Holds zs b → Holds zs c
  hearing_holds g =
      let l = h.as_long in
      record { line = omega (arith, g.line, l.line); plain = omega (arith, g.plain, l.plain); distance = omega (arith, g.distance, l.distance) }

  pub hearing_ready : (rows : List ℕ) → Rows s.mode rows → Holds zs b → Ready t rows c zs k
  hearing_ready rows r g = record { rows_are = hearing_rows rows r; heard = hearing_here; holds = hearing_holds g }

  module _ (i : k < length zs / 2) where
    now_here : left zs k ≡ here ∷ left zs (k + 1)
    now_here = pairs-step zs (2 * k) (omega arith) ∙ ap (λ (n : ℕ). here ∷ pairs (drop n zs)) (let e : 2 * k + 2 ≡ 2 * (k + 1) = omega arith in e)

    pub hearing_free : refusal t (point here) ≡ 0
    hearing_free = (subst (λ (ps : List Point). EachAccepted t (map point ps)) now_here h.free).0

    -- so it has a mode
    pub hearing_mode : (1 ≤ t.mode) × (t.mode ≤ 6)
    unfolding is_mode
    hearing_mode =
        let v = (accepted_valid t (point here) hearing_free).mode in
        (leb-true _ _ (is_true _ (and_left (leb 1 t.mode) (leb t.mode 6) v)), leb-true _ _ (is_true _ (and_right (leb 1 t.mode) (leb t.mode 6) v)))

    pub hearing_step : (r : Step) (d : Parts) → r ≡ step (answer t (point here)) (next t (point here)) → d ≡ stepped c k r → Hearing s b zs j r.next d (k + 1)
    hearing_step r d e ed =
        let q = now_here in
        let rest : List Point = left zs (k + 1) in
        let f = subst (λ (ps : List Point). EachAccepted t (map point ps)) q h.free in
        let u : r.next ≡ next t (point here) = ap (λ (x : Step). x.next) e in
        record {
          on = omega (arith, h.on);
          place = omega arith;
          mode_stays = ap (λ (v : Receiver). v.mode) u ∙ (same_next t (point here)).0 ∙ h.mode_stays;
          as_long = long_then h.as_long (long_step c d k r ed);
          free = subst (λ (v : Receiver). EachAccepted v (map point rest)) (sym u) f.1;
          state_left = ap (λ (v : Receiver). after v (map point rest)) u ∙ ap (λ (ps : List Point). after t (map point ps)) (sym q) ∙ h.state_left;
          parts-left = parts-step t here (left zs k) rest c d k r f.0 e q ed ∙ h.parts-left;
        }

  pub hearing_end : length zs / 2 ≤ k → (t ≡ after s (map point (left zs j))) × (c ≡ wrote b j (answers_to s (left zs j)))
  hearing_end i =
      let q : left zs k ≡ [] = pairs_end zs (2 * k) (omega arith) in (
        ap (λ (ps : List Point). after t (map point ps)) (sym q) ∙ h.state_left,
        ap (λ (ps : List Point). wrote c k (answers_to t ps)) (sym q) ∙ h.parts-left,
      )

-- POINTS AFTER A REFERENCE

-- the test for what the loop takes: with the guard, a full register
pub run_test : (a b : ℕ) (g : Bool) → eqb a b || not g ≡ true → g ≡ true → a ≡ b
run_test a b g e h = eqb→eq a b (go (eqb a b) g e h)
  where
    go : (t g : Bool) → t || not g ≡ true → g ≡ true → T t
    go true g e h = tt
    go false true e h = subst T (sym e) tt
    go false false e h = subst T (sym h) tt

pub at_reference : (s : Receiver) (x : ℕ) → s.reference ≡ some x → s ≡ later_at s x s.line.bits s.line.held.0 s.line.count.0 0
at_reference s x er =
    let e : s.place.0 ≡ s.place.0 + 0 = omega arith in
    λ i. receiver s.mode s.role (er i) s.line (e i)

-- a group after h line bits from the same after a full register
module _ (m role n h c g : ℕ) where
  abbrev full_one : Descrambled
  full_one = descrambled m role (register n (capacity m) c) g

  abbrev this_one : Descrambled
  this_one = descrambled m role (register n h c) g

  abbrev ReadAs : Bool → Type 0
  ReadAs t =
      (cond t full_one.plain (16 * min (capacity m - h) (width m) + full_one.plain % 2 ^ (width m - min (capacity m - h) (width m)))
      ≡ 16 * this_one.unsettled.0 + this_one.plain)
      × (register full_one.next.bits (cond t h (min (h + width m) (capacity m))) full_one.next.count.0 ≡ this_one.next)

  read_full : h ≡ capacity m → ReadAs true
  read_full e =
      let same : full_one ≡ this_one = ap (λ (k : ℕ). descrambled m role (register n k c) g) (sym e) in
      let f = after_full m role n c g in
      let plain : full_one.plain ≡ 16 * full_one.unsettled.0 + full_one.plain = omega (arith, f.0) in
      let held : h ≡ full_one.next.held.0 = e ∙ sym f.1 in (
        plain ∙ ap (λ (d : Descrambled). 16 * d.unsettled.0 + d.plain) same,
        ap (λ (k : ℕ). register full_one.next.bits k full_one.next.count.0) held ∙ ap (λ (d : Descrambled). d.next) same,
      )

  read_filling : guarded m ≡ false → ReadAs false
  read_filling f =
      let e = fill_law m role n h c c g f in
      (ap (λ (d : Descrambled). 16 * d.unsettled.0 + d.plain) (sym e), ap (λ (d : Descrambled). d.next) (sym e))

  read_as : (guarded m ≡ true → h ≡ capacity m) → ReadAs (eqb h (capacity m))
  read_as k = go (eqb h (capacity m)) (guarded m) refl refl
    where
      go : (t b : Bool) → eqb h (capacity m) ≡ t → guarded m ≡ b → ReadAs t
      go true b e f = read_full (eqb→eq h (capacity m) (subst T (sym e) tt))
      go false true e f = absurd (subst T e (subst (λ (j : ℕ). T (eqb h j)) (k f) (eqb_refl h)))
      go false false e f = read_filling f

-- a point after a full register, from its parts
pub settled_whole : (m role x n c : ℕ) (rows : List ℕ) (re im : ℤ) (y g : ℕ) (d : Descrambled) → y ≡ get_or (ring_of m) (ring_index m re im) 0 → g ≡ with_row m (get_or rows (row_index m x y) 0) y
    → d ≡ descrambled m role (register n (capacity m) c) g
    → ◌≡◌ {A = Settled} (record { state = y; line = g; plain = d.plain; bits = d.next.bits; count = d.next.count.0 }) (settled_point m role x n c rows re im)
settled_whole m role x n c rows re im y g d ey eg ed = rw (ed, eg, ey)

-- and by the number that the mode is
pub settled_as : (m k role x n c : ℕ) (rows : List ℕ) (re im : ℤ) (r : Settled) → m ≡ k → r ≡ settled_point k role x n c rows re im → r ≡ settled_point m role x n c rows re im
settled_as m k role x n c rows re im r e q = q ∙ ap (λ (j : ℕ). settled_point j role x n c rows re im) (sym e)

-- the two cases of a register
pub cond_full : {A : Type 0} (h k : ℕ) (a b r : A) → r ≡ a → h ≡ k → r ≡ cond (eqb h k) a b
cond_full h k a b r e q =
    let t : eqb h k ≡ true = is_true _ (subst (λ (j : ℕ). T (eqb h j)) q (eqb_refl h)) in
    e ∙ ap (λ (z : Bool). cond z a b) (sym t)

pub cond_filling : {A : Type 0} (h k : ℕ) (a b r : A) → r ≡ b → (h ≡ k → ⊥) → r ≡ cond (eqb h k) a b
cond_filling h k a b r e f = go (eqb h k) refl
  where
    go : (t : Bool) → eqb h k ≡ t → r ≡ cond t a b
    go true q = absurd (f (eqb→eq h k (subst T (sym q) tt)))
    go false q = e

pub held_full : (m h k : ℕ) → (guarded m ≡ true → h ≡ capacity m) → k ≡ held_next m h → guarded m ≡ true → k ≡ capacity m
held_full m h k f e g =
    let q : eqb h (capacity m) ≡ true = is_true _ (subst (λ (j : ℕ). T (eqb h j)) (f g) (eqb_refl h)) in
    e ∙ ap (λ (t : Bool). cond t h (min (h + width m) (capacity m))) q ∙ f g

-- one point more: the step is the receiver's
module _ (s : Receiver) (x n h c i : ℕ) (re im : ℤ) where
  abbrev now_at : Receiver
  now_at = later_at s x n h c i

  run_step : (rows : List ℕ) (origin : Bool) (r : Settled) (u : SquaredUnits) (p k : ℕ) → refusal now_at (point (at re im)) ≡ 0 → origin ≡ is_origin (at re im) → origin ≡ false
      → Rows s.mode rows → (guarded s.mode ≡ true → h ≡ capacity s.mode) → r ≡ settled_point s.mode s.role x n c rows re im
      → u.0 ≡ distance s.mode r.state (at re im) → p ≡ plain_at s.mode h r.plain → k ≡ held_next s.mode h
      → ◌≡◌ {A = Step} (record { line = r.line; plain = p; distance = u; next = later_at s r.state r.bits k r.count (i + 1) }) (step (answer now_at (point (at re im))) (next now_at (point (at re im))))
  run_step rows origin r u p k z eo off rs full er eu ep ek =
      let m : ℕ = s.mode in
      let y : ℕ = get_or (ring_of m) (ring_index m re im) 0 in
      let g : ℕ = with_row m (get_or rows (row_index m x y) 0) y in
      let d : Descrambled = descrambled m s.role (register n h c) g in
      let f : Descrambled = descrambled m s.role (register n (capacity m) c) g in
      let q = read_as m s.role n h c g full in
      let plain : p ≡ 16 * d.unsettled.0 + d.plain = ep ∙ ap (λ (v : Settled). plain_at m h v.plain) er ∙ q.0 in
      let line : register r.bits k r.count ≡ d.next = (λ j. register (er j).bits (ek j) (er j).count) ∙ q.1 in
      let place : s.place.0 + (i + 1) ≡ s.place.0 + i + 1 = omega arith in
      let later : Receiver = receiver m s.role (some y) d.next (s.place.0 + i + 1) in
      let same : later_at s r.state r.bits k r.count (i + 1) ≡ later = λ j. receiver m s.role (some (er j).state) (line j) (place j) in
      hear_state now_at re im z origin eo (ring_of m) y u _ off refl refl (eu ∙ ap (λ (v : Settled). distance m v.state (at re im)) er)
      ((λ j. record { line = (er j).line; plain = plain j; distance = u; next = same j }) ∙ take-bits now_at later y u (some x) x g d rows refl rs refl refl refl)

pub run_start : (s : Receiver) (b : Parts) (zs : List ℤ) (j x : ℕ) → s ≡ later_at s x s.line.bits s.line.held.0 s.line.count.0 0 → Hearing s b zs j s b j
    → Hearing s b zs j (later_at s x s.line.bits s.line.held.0 s.line.count.0 (j - j)) b j
run_start s b zs j x e h =
    subst (λ (t : Receiver). Hearing s b zs j t b j) (e ∙ ap (later_at s x s.line.bits s.line.held.0 s.line.count.0) (let z : 0 ≡ j - j = omega arith in z)) h

-- the place where they end is in range
pub run_room : (s t : Receiver) (b c : Parts) (zs : List ℤ) (j k : ℕ) → s.place.0 ≤ 4294967295 → EachAccepted s (map point (left zs j)) → Hearing s b zs j t c k → s.place.0 + (k - j) ≤ 4294967295
run_room s t b c zs j k r f h =
    omega (arith, each_has_place s (left zs j) r f, pairs-length (drop (2 * j) zs), length-drop (2 * j) zs, h.on, h.place)

-- at the end of the points
pub run_over : (s : Receiver) (b c : Parts) (zs : List ℤ) (j k x n h count : ℕ) → Hearing s b zs j (later_at s x n h count (k - j)) c k → length zs / 2 ≤ k
    → Hearing s b zs j (later_at s x n h count (length zs / 2 - j)) c (length zs / 2)
run_over s b c zs j k x n h count i l =
    subst (λ (m : ℕ). Hearing s b zs j (later_at s x n h count (m - j)) c m) (let e : k ≡ length zs / 2 = omega (arith, i.place) in e) i

-- the distance from the constellation's point
pub from_constellation : (m y : ℕ) (re im : ℤ) (points : List Point) (n : ℕ) → SFits w16 re → SFits w16 im → Tabled 16 (sent_point m) (at (pos 0) (pos 0)) points
    → n ≡ squared_distance (at re im) (get_or points (y % 16) (at (pos 0) (pos 0))) % 4294967296 → n ≡ distance m y (at re im)
from_constellation m y re im points n fr fi t q = sent_law m y re im _ n fr fi (t.at (y % 16) (omega arith) ∙ sent_round m y) q

pub run_again : (s : Receiver) (b c c' : Parts) (zs : List ℤ) (j k x n h count : ℕ) → Hearing s b zs j (later_at s x n h count (k - j)) c k → k < length zs / 2
    → (re im : ℤ) → re ≡ get_or zs (2 * k) (pos 0) → im ≡ get_or zs (2 * k + 1) (pos 0) → (rows : List ℕ) (origin : Bool) (r : Settled) (u : SquaredUnits) (p l : ℕ)
    → Rows s.mode rows → (guarded s.mode ≡ true → h ≡ capacity s.mode) → origin ≡ is_origin (at re im) → origin ≡ false → r ≡ settled_point s.mode s.role x n count rows re im
    → u.0 ≡ distance s.mode r.state (at (get_or zs (2 * k) (pos 0)) (get_or zs (2 * k + 1) (pos 0))) → p ≡ plain_at s.mode h r.plain → l ≡ held_next s.mode h
    → c' ≡ parts (set c.line k r.line) (set c.plain k p) (set c.distance k u.0) → Hearing s b zs j (later_at s r.state r.bits l r.count (k + 1 - j)) c' (k + 1)
run_again s b c c' zs j k x n h count i w re im ere eim rows origin r u p l rs full eo off er eu ep el ec =
    let t : Receiver = later_at s x n h count (k - j) in
    let e = run_step s x n h count (k - j) (get_or zs (2 * k) (pos 0)) (get_or zs (2 * k + 1) (pos 0)) rows origin r u p l (hearing_free s b zs j t c k i w) (rw (ere, eim) at eo) off rs full
    (rw (ere, eim) at er) eu ep el in
    subst (λ (m : ℕ). Hearing s b zs j (later_at s r.state r.bits l r.count m) c' (k + 1)) (let z : k - j + 1 ≡ k + 1 - j = omega (arith, i.on) in z)
    (hearing_step s b zs j t c k i w _ c' e ec)
