-- Points in levels: the number that refuses one, and a run of them put into units and heard. Assumes nothing.
use Prim.Native.Nat.{ℕ, suc, ◌+◌, ◌*◌, ◌-◌, ◌/◌, ◌%◌, ◌<◌, ◌≤◌, min}
use mathlib.Core.Path.{◌≡◌, refl, sym, ap, ap₂, ◌∙◌, subst}
use mathlib.Core.Bool.{Bool, true, false, ◌&&◌}
use mathlib.Core.List.{List, [], ◌∷◌, ◌++◌, map, map-append}
use native.Mathlib.Nat.{min-le_left}
use native.Mathlib.Omega.{arith}
use borrow.Author.Tests.{eq-eqb, le-leb}
use lib.Dec.{T}
use lib.IntN.{ℤ}
use lib.Ieee.{Float, nan}
use borrow.Rule.Slice.PartMut.{put_mid}
use lib.ListN.{length, get_or, set, take, drop, length-set, length-append, length-drop, length-map, drop_of_length-le}
use lib.Seq.{sets, sets-eq, drop-cons, drop-drop, take-append_seam, drop-append_seam, length-take-le, length-sets}
use mir.Syntax.{w16}
use mir.Val.{to_z, of_z}
use mir.Facts.{to_z-of_z}
use Rattle.line.specs.Table.{every}
use Rattle.line.specs.declared.Point.{Point}
use Rattle.line.specs.Point.{pairs, coordinate_in, coordinates_in}
use Rattle.line.specs.Refusal.{number, need, accepted}
use Rattle.line.proofs.RefusalLaws.{some_number, next-first}
use Rattle.line.proofs.PointLaws.{pairs-length, pairs_split}
use Rattle.line.proofs.Sets.{sets_then, sets_part, part_room}
use Rattle.line.proofs.TableLaws.{and_intro, every_take, every_drop, map-drop}
use Rattle.levels.specs.Levels.{is_finite, rounded, in_reach}
use Rattle.levels.proofs.RoundsProof.{reach_fits}
use Rattle.receiver.specs.declared.Receiver.{Receiver}
use Rattle.receiver.specs.Receiver.{Event, point, Answer, state_refusal, event_refusal, refusal}
use Rattle.receiver.specs.Calls.{after, EachAccepted, Heard, heard, answers}
use Rattle.receiver.proofs.CallLaws.{heard_append, after_append, each_split, heard_all, same_after}
use Rattle.std.specs.Prelude.{Result, Ok, Err}
use Rattle.std.specs.Result.{result_unwrap_or}
use Rattle.line.specs.declared.refusal.Refusal.{Refusal}
use Rattle.bulk.specs.Block.{in_units, in_levels, line_byte, plain_byte, distance_number, answers_to, Parts, parts, wrote, Lent, sizes, block_refusal, coordinate_fault, places_ok, fault_of, state_of, Told, parts_after}
use Rattle.bulk.specs.Hearing.{left, Hearing, Holds}
use Rattle.bulk.proofs.BlockLaws.{has_place, lent_is, all_finite, at_once, fault_law, each_coordinate, whole_points, hearing_holds}

-- WHAT REFUSES ONE

reach_every : (vs : List Float) → every in_reach vs ≡ every is_finite vs && coordinates_in (map rounded vs)
unfolding in_reach
reach_every [] = refl
reach_every (v ∷ vs) =
    ap (λ (t : Bool). (is_finite v && coordinate_in (rounded v)) && t) (reach_every vs) ∙ by (is_finite v) (coordinate_in (rounded v)) (every is_finite vs) (coordinates_in (map rounded vs))
  where
    by : (a b c d : Bool) → (a && b) && (c && d) ≡ (a && c) && (b && d)
    by true true c d = refl
    by true false true d = refl
    by true false false d = refl
    by false b c d = refl

module _ (vs : List Float) (r : Bool) (e : r ≡ every in_reach vs) where
  both : every is_finite vs && coordinates_in (map rounded vs) ≡ r
  both = sym (e ∙ reach_every vs)

  pub none_refused : r ≡ true → 0 ≡ coordinate_fault (in_levels vs)
  unfolding coordinate_fault
  none_refused h = by (every is_finite vs) (coordinates_in (map rounded vs)) (both ∙ h)
    where
      by : (a b : Bool) → a && b ≡ true → 0 ≡ need a 18 (need b 8 0)
      by true true i = refl
      by true false i = absurd (subst T (sym i) tt)
      by false b i = absurd (subst T (sym i) tt)

  module _ (h : r ≡ false) (f : Bool) (p : f ≡ every is_finite vs) where
    found : need f 18 8 ≡ coordinate_fault (in_levels vs)
    unfolding coordinate_fault
    found = ap (λ (t : Bool). need t 18 8) p ∙ by (every is_finite vs) (coordinates_in (map rounded vs)) (both ∙ h)
      where
        by : (a b : Bool) → a && b ≡ false → need a 18 8 ≡ need a 18 (need b 8 0)
        by true true i = absurd (subst T i tt)
        by true false i = refl
        by false b i = refl

    pub one_not_finite : (e : Refusal) → number e ≡ need f 18 0 → number e ≡ coordinate_fault (in_levels vs)
    one_not_finite e q = by f q ∙ found
      where
        by : (t : Bool) → number e ≡ need t 18 0 → number e ≡ need t 18 8
        by true i = absurd (some_number e i)
        by false i = i

    pub one_far : 0 ≡ need f 18 0 → 8 ≡ coordinate_fault (in_levels vs)
    one_far q = by f q ∙ found
      where
        by : (t : Bool) → 0 ≡ need t 18 0 → 8 ≡ need t 18 8
        by true i = refl
        by false i = absurd (omega arith)

-- INTO UNITS, ONE AFTER THE OTHER

pub fitting : (z : ℤ) (v : Float) → T (in_reach v) → z ≡ rounded v → to_z w16 (of_z w16 z) ≡ rounded v
fitting z v r e = ap (λ (y : ℤ). to_z w16 (of_z w16 y)) e ∙ to_z-of_z {w = w16} (reach_fits v r)

-- those from number k on are to be put
pub record Putting (vs : List Float) (zs₀ zs : List ℤ) (k : ℕ) : Type 0 where
  pub place : k ≤ length vs
  pub as_long : length zs ≡ length zs₀
  pub left : sets zs k (map rounded (drop k vs)) ≡ sets zs₀ 0 (map rounded vs)

pub put_start : (vs : List Float) (zs : List ℤ) → Putting vs zs zs 0
put_start vs zs = record { place = omega arith; as_long = refl; left = refl }

module _ (vs : List Float) (zs₀ zs : List ℤ) (k : ℕ) (h : Putting vs zs₀ zs k) where
  pub put_step : (x : ℤ) → k < length vs → x ≡ rounded (get_or vs k nan) → Putting vs zs₀ (set zs k x) (k + 1)
  put_step x l e =
      record {
        place = omega arith;
        as_long = length-set zs k x ∙ h.as_long;
        left =
            ap₂ (λ (y : ℤ) (i : ℕ). sets (set zs k y) i (map rounded (drop i vs))) e (let i : k + 1 ≡ suc k = omega arith in i)
            ∙ ap (λ (us : List Float). sets zs k (map rounded us)) (sym (drop-cons vs k nan l)) ∙ h.left;
      }

  pub put_end : length vs ≤ k → zs ≡ sets zs₀ 0 (map rounded vs)
  put_end l = ap (λ (us : List Float). sets zs k (map rounded us)) (sym (drop_of_length-le vs l)) ∙ h.left

-- A RUN OF POINTS

-- the first numbers after a run was put there are the run
front : (zs us : List ℤ) (n : ℕ) → length us ≡ n → n ≤ length zs → take n (sets zs 0 us) ≡ us
front zs us n e l =
    ap (take n) (sets-eq us zs 0 (omega arith)) ∙ ap (λ (i : ℕ). take i (us ++ drop (0 + length us) zs)) (sym e) ∙ take-append_seam us (drop (0 + length us) zs)

-- a chunk of the levels from number k on: whole points, as many as n lent numbers hold at most
module _ (vs whole part rest : List Float) (k n size : ℕ) (at : whole ≡ drop (2 * k) vs) (q : size ≡ n / 2 * 2) (two : 2 ≤ n) (even : length vs % 2 ≡ 0) (e : whole ≡ part ++ rest)
    (r : length part ≡ min size (length whole)) (some : 0 < length whole) where
  left-long : length whole ≡ length vs - 2 * k
  left-long = ap length at ∙ length-drop (2 * k) vs

  pub chunk_even : length part ≡ 2 * (length part / 2)
  chunk_even = let l = left-long in omega arith

  pub chunk_some : 1 ≤ length part / 2
  chunk_some = let l = left-long in omega arith

  pub chunk_held : length part ≤ n
  chunk_held = let l = min-le_left size (length whole) in omega arith

  pub chunk_reached : T (every in_reach vs) → T (every in_reach part)
  chunk_reached t =
      subst (λ (us : List Float). T (every in_reach us)) (ap (take (length part)) e ∙ take-append_seam part rest)
      (every_take in_reach (length part) whole (subst (λ (us : List Float). T (every in_reach us)) (sym at) (every_drop in_reach (2 * k) vs t)))

  pub chunk_rest : rest ≡ drop (2 * (k + length part / 2)) vs
  chunk_rest =
      let l = chunk_even in
      sym (drop-append_seam part rest) ∙ ap (drop (length part)) (sym e ∙ at) ∙ drop-drop (length part) (2 * k) vs
      ∙ ap (λ (i : ℕ). drop i vs) (let z : 2 * k + length part ≡ 2 * (k + length part / 2) = omega arith in z)

-- m points from number k on, before the rest
module _ (vs part rest : List Float) (k m : ℕ) (e : drop (2 * k) vs ≡ part ++ rest) (p : length part ≡ 2 * m) where
  run_within : 1 ≤ m → k + m ≤ length vs / 2
  run_within l = let i = sym (length-drop (2 * k) vs) ∙ ap length e ∙ length-append part rest in omega arith

  run_units : (zs us : List ℤ) → length part ≤ length zs → us ≡ sets zs 0 (map rounded part) → take (length part) us ≡ take (2 * m) (drop (2 * k) (map rounded vs))
  run_units zs us h q =
      let l : length (map rounded part) ≡ length part = length-map part rounded in
      ap (take (length part)) q ∙ front zs (map rounded part) (length part) l h
      ∙ sym (take-append_seam (map rounded part) (map rounded rest))
      ∙ ap₂ take (l ∙ p) (sym (map-append rounded part rest) ∙ ap (map rounded) (sym e) ∙ map-drop rounded (2 * k) vs)

-- the parts from place k on, as they are lent, and the whole after it
abbrev pub lent_parts : Parts → ℕ → Parts
lent_parts c k = parts (take (length c.line - k) (drop k c.line)) (take (length c.plain - k) (drop k c.plain)) (take (length c.distance - k) (drop k c.distance))

abbrev pub put_parts : Parts → ℕ → Parts → Parts
put_parts c k d = parts (put_mid k (length c.line - k) c.line d.line) (put_mid k (length c.plain - k) c.plain d.plain) (put_mid k (length c.distance - k) c.distance d.distance)

-- they are heard by a call of their own, and the rest is left
module _ (s : Receiver) (b : Parts) (zs : List ℤ) (j : ℕ) (t : Receiver) (c : Parts) (k m : ℕ) (h : Hearing s b zs j t c k) (l : k + m ≤ length zs / 2) (xs : List ℤ) (e : xs ≡ take (2 * m) (drop (2 * k) zs)) where
  run_split : left zs k ≡ pairs xs ++ left zs (k + m)
  run_split =
      pairs_split m (drop (2 * k) zs) (simp length-drop (omega arith))
      ∙ ap₂ (λ (us ws : List ℤ). pairs us ++ pairs ws) (sym e) (drop-drop (2 * m) (2 * k) zs ∙ ap (λ (n : ℕ). drop n zs) (let i : 2 * k + 2 * m ≡ 2 * (k + m) = omega arith in i))

  both_free : EachAccepted t (map point (pairs xs)) × EachAccepted (after t (map point (pairs xs))) (map point (left zs (k + m)))
  both_free =
      each_split t (map point (pairs xs)) (map point (left zs (k + m)))
      (subst (EachAccepted t) (ap (map point) run_split ∙ map-append point (pairs xs) (left zs (k + m))) h.free)

  pub run_free : EachAccepted t (map point (pairs xs))
  run_free = both_free.0

  xs_length : length xs ≡ 2 * m
  xs_length = ap length e ∙ length-take-le (2 * m) (drop (2 * k) zs) (simp length-drop (omega arith))

  points-length : length (pairs xs) ≡ m
  points-length = pairs-length xs ∙ (let i = xs_length in let z : length xs / 2 ≡ m = omega arith in z)

  answers-length : length (answers_to t (pairs xs)) ≡ m
  answers-length =
      length-map (heard t (map point (pairs xs))) (λ (x : Heard). x.answered) ∙ sym (length-map (heard t (map point (pairs xs))) (λ (x : Heard). x.event))
      ∙ ap length (heard_all t (map point (pairs xs)) run_free) ∙ length-map (pairs xs) point ∙ points-length

  pub run_holds : Holds zs c → Holds xs (lent_parts c k)
  run_holds g =
      let i = xs_length in
      record {
        line = part_room c.line k (length xs / 2) (omega (arith, g.line));
        plain = part_room c.plain k (length xs / 2) (omega (arith, g.plain));
        distance = part_room c.distance k (length xs / 2) (omega (arith, g.distance));
      }

  -- what the answers to the run and then those to the rest write
  written_on : (u : Receiver) → u ≡ after t (map point (pairs xs)) → wrote (wrote c k (answers_to t (pairs xs))) (k + m) (answers_to u (left zs (k + m))) ≡ wrote c k (answers_to t (left zs k))
  written_on u q =
      let first : List Answer = answers_to t (pairs xs) in
      let rest : List Answer = answers_to u (left zs (k + m)) in
      let both : answers_to t (left zs k) ≡ first ++ rest =
      ap (answers_to t) run_split
      ∙ ap (λ (es : List Event). answers (heard t es)) (map-append point (pairs xs) (left zs (k + m)))
      ∙ ap answers (heard_append t (map point (pairs xs)) (map point (left zs (k + m))))
      ∙ map-append (λ (x : Heard). x.answered) (heard t (map point (pairs xs))) _
      ∙ ap (λ (v : Receiver). first ++ answers_to v (left zs (k + m))) (sym q) in
      (λ i. parts (one c.line line_byte first rest answers-length i) (one c.plain plain_byte first rest answers-length i) (one c.distance distance_number first rest answers-length i)) ∙ ap (wrote c k) (sym both)
    where
      one : (o : List ℕ) (f : Answer → ℕ) (us ws : List Answer) → length us ≡ m → sets (sets o k (map f us)) (k + m) (map f ws) ≡ sets o k (map f (us ++ ws))
      one o f us ws n =
          sets_then (map f us) (map f ws) o k (k + m) (ap (λ (i : ℕ). k + i) (length-map us f ∙ n)) ∙ ap (sets o k) (sym (map-append f us ws))

  pub run_heard : (u : Receiver) (d : Parts) → Holds zs c → u ≡ after t (map point (pairs xs)) → d ≡ wrote (lent_parts c k) 0 (answers_to t (pairs xs))
      → Hearing s b zs j u (put_parts c k d) (k + m)
  run_heard u d g q r =
      let p : (o v : List ℕ) (f : Answer → ℕ) → length zs / 2 ≤ length o → v ≡ sets (take (length o - k) (drop k o)) 0 (map f (answers_to t (pairs xs))) → put_mid k (length o - k) o v ≡ sets o k (map f (answers_to t (pairs xs))) =
      λ o v f n w. ap (put_mid k (length o - k) o) w ∙ sets_part o k (map f (answers_to t (pairs xs))) (omega (arith, n)) in
      let line = p c.line d.line line_byte g.line (ap (λ (w : Parts). w.line) r) in
      let plain = p c.plain d.plain plain_byte g.plain (ap (λ (w : Parts). w.plain) r) in
      let distance = p c.distance d.distance distance_number g.distance (ap (λ (w : Parts). w.distance) r) in
      record {
        on = omega (arith, h.on);
        place = l;
        mode_stays = ap (λ (v : Receiver). v.mode) q ∙ (same_after t (map point (pairs xs))).0 ∙ h.mode_stays;
        as_long =
            record {
              line = ap length line ∙ length-sets c.line k (map line_byte (answers_to t (pairs xs))) ∙ h.as_long.line;
              plain = ap length plain ∙ length-sets c.plain k (map plain_byte (answers_to t (pairs xs))) ∙ h.as_long.plain;
              distance = ap length distance ∙ length-sets c.distance k (map distance_number (answers_to t (pairs xs))) ∙ h.as_long.distance;
            };
        free = subst (λ (v : Receiver). EachAccepted v (map point (left zs (k + m)))) (sym q) both_free.1;
        state_left =
            ap (λ (v : Receiver). after v (map point (left zs (k + m)))) q
            ∙ sym (after_append t (map point (pairs xs)) (map point (left zs (k + m))))
            ∙ ap (after t) (sym (ap (map point) run_split ∙ map-append point (pairs xs) (left zs (k + m)))) ∙ h.state_left;
        parts-left = (λ i. wrote (parts (line i) (plain i) (distance i)) (k + m) (answers_to u (left zs (k + m)))) ∙ written_on u q ∙ h.parts-left;
      }

-- the state after a call, as the code takes it
left_of : (t : Receiver) (a : Result Receiver Refusal) → result_unwrap_or a t ≡ state_of t a
left_of t (Ok u) = refl
left_of t (Err e) = refl

-- where a point is accepted, the state passes and has a place
first_passes : (t : Receiver) (ps : List Point) → EachAccepted t (map point ps) → 1 ≤ length ps → (state_refusal t ≡ 0) × (t.place.0 ≤ 4294967295)
unfolding refusal
first_passes t [] f l = absurd (omega arith)
first_passes t (p ∷ ps) f l = let h = has_place t p f.0 in (next-first (state_refusal t) (event_refusal t (point p)) f.0, omega arith)

-- a run in levels, put into lent numbers zs, which are then us
module _ (s : Receiver) (b : Parts) (vs : List Float) (t : Receiver) (c : Parts) (k m : ℕ) (h : Hearing s b (map rounded vs) 0 t c k) (g : Holds (map rounded vs) b) (zs us : List ℤ) (part rest : List Float) (e : drop (2 * k) vs ≡ part ++ rest)
    (p : length part ≡ 2 * m) (one : 1 ≤ m) (o : length part ≤ length zs) (w : us ≡ sets zs 0 (map rounded part)) where
  within : k + m ≤ length (map rounded vs) / 2
  within = simp length-map (run_within vs part rest k m e p one)

  as_units : take (length part) us ≡ take (2 * m) (drop (2 * k) (map rounded vs))
  as_units = run_units vs part rest k m e p zs us o w

  abbrev xs : List ℤ
  xs = take (length part) us

  free : EachAccepted t (map point (pairs xs))
  free = run_free s b (map rounded vs) 0 t c k m h within xs as_units

  xs_long : length xs ≡ 2 * m
  xs_long = xs_length s b (map rounded vs) 0 t c k m h within xs as_units

  -- the call for the run is accepted: its points are, and its lent parts suffice
  accepted_run : block_refusal t (in_units xs) (sizes (lent_parts c k)) ≡ 0
  unfolding places_ok
  accepted_run =
      let holds = run_holds s b (map rounded vs) 0 t c k m h within xs as_units (hearing_holds s b (map rounded vs) 0 t c k h g) in
      let first = first_passes t (pairs xs) free (let i = points-length s b (map rounded vs) 0 t c k m h within xs as_units in omega arith) in
      at_once t (in_units xs) (sizes (lent_parts c k)) first.0 first.1
      (subst T (lent_is t (in_units xs) (sizes (lent_parts c k)))
      (rw (
        eq-eqb (length xs % 2) 0 (let i = xs_long in omega arith),
        le-leb (length xs / 2) (length (lent_parts c k).line) holds.line,
        le-leb (length xs / 2) (length (lent_parts c k).plain) holds.plain,
        le-leb (length xs / 2) (length (lent_parts c k).distance) holds.distance,
      ) tt)) tt free

  pub levels-heard : (a : Result Receiver Refusal) (u : Receiver) (d : Parts) → Told t (in_units xs) (sizes (lent_parts c k)) a → d ≡ parts_after t (in_units xs) (lent_parts c k) → u ≡ result_unwrap_or a t
      → Hearing s b (map rounded vs) 0 u (put_parts c k d) (k + m)
  unfolding parts_after
  levels-heard a u d told q r =
      let z = accepted_run in
      run_heard s b (map rounded vs) 0 t c k m h within xs as_units u d (hearing_holds s b (map rounded vs) 0 t c k h g)
      (r ∙ left_of t a ∙ told.state_is ∙ ap (λ (i : ℕ). accepted i (after t (map point (pairs xs))) t) z)
      (q ∙ ap (λ (i : ℕ). accepted i (wrote (lent_parts c k) 0 (answers_to t (pairs xs))) (lent_parts c k)) z)

-- THE CALL

module _ (s : Receiver) (vs : List Float) (n : Lent) where
  pub fault_levels : (c f : ℕ) → c ≡ coordinate_fault (in_levels vs) → f ≡ fault_of s (length vs) c n → f ≡ block_refusal s (in_levels vs) n
  fault_levels c f p e = e ∙ ap₂ (λ (i j : ℕ). fault_of s i j n) (sym (length-map vs rounded)) p ∙ fault_law s (in_levels vs) n

  -- an accepted block has whole points
  pub whole_levels : block_refusal s (in_levels vs) n ≡ 0 → length vs % 2 ≡ 0
  whole_levels z = ap (λ (i : ℕ). i % 2) (sym (length-map vs rounded)) ∙ whole_points s (in_levels vs) n z

  -- all of an accepted block is in reach
  pub all_reached : block_refusal s (in_levels vs) n ≡ 0 → T (every in_reach vs)
  all_reached z =
      subst T (sym (reach_every vs)) (and_intro (every is_finite vs) (coordinates_in (map rounded vs)) (all_finite s (in_levels vs) n z) (each_coordinate s (in_levels vs) n z))
