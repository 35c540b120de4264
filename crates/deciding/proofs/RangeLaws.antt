-- Within range the distance of a decided point is bounded, and it is no minimum. Assumes nothing.
use mathlib.Core.Path.{◌≡◌, refl, sym, subst}
use mathlib.Core.Bool.{Bool, true, false, cond}
use Prim.Native.Nat.{ℕ, zero, suc, ◌+◌, ◌*◌, ◌%◌, ◌<◌, ◌≤◌}
use native.Mathlib.Omega.{arith}
use native.Mathlib.Decide.{dec_lt}
use borrow.Author.Tests.{leb-true, leb-false}
use lib.Dec.{T, ltb, leb}
use lib.IntN.{pos, nat_abs, sub_ℕ}
use lib.ListN.{get_or}
use Rattle.line.specs.declared.Point.{Point}
use Rattle.line.specs.Mode.{is_mode, quadrant, next_quadrant, step, turn, turns, quarter_steps}
use Rattle.line.specs.Point.{at, coordinate_in, in_range, is_origin, turned, turned_by, sent27, levels32, sent32, sent_point}
use Rattle.line.proofs.StateLaws.{mode_cases}
use Rattle.line.proofs.TableLaws.{and_left, and_right, is_true}
use Rattle.deciding.specs.Decide.{Region, State, Origin, in_first, sector, first, quarters, decide, turned_answer}
use Rattle.deciding.specs.Distance.{squared_distance, distance}
use Rattle.deciding.specs.Sizes.{sq}
use Rattle.deciding.specs.Laws.{MostDistance, NoMinimum}
use Rattle.deciding.proofs.Arcs.{arc, state1, state2, ring3, state3, ring4, outer_size, state4, state_arc}
use Rattle.deciding.proofs.DecideLaws.{Off, decide-off, at_origin, turn_decides}
use Rattle.deciding.proofs.OneRegion.{either, quartered}
use Rattle.deciding.proofs.Differences.{sub_pos, sub_neg}
use Rattle.deciding.proofs.DistanceLaws.{squares_most, turn_keeps}
use Rattle.deciding.proofs.RegionLaws.{base, off-turned}
use Rattle.deciding.proofs.SizeLaws.{not-zero, base_off, arc_decide}

-- what a region says of the distance
abbrev Within : ℕ → Point → Region → Type 0
Within m z (State s) = distance m s z ≤ 419430400
Within m z Origin = Unit {0}

-- A POINT WITH re > 0 AND im ≥ 0

-- at most n apart
difference_most : (x c n : ℕ) → x ≤ n + c → c ≤ n + x → nat_abs (sub_ℕ x c) ≤ n
difference_most x c n h k = go (dec_lt x c)
  where
    go : Dec (x < c) → nat_abs (sub_ℕ x c) ≤ n
    go (yes l) = rw (sub_neg x c l) (omega arith)
    go (no l) = rw (sub_pos x c (omega (arith, l))) (omega arith)

module _ (a b : ℕ) (ha : suc a ≤ 16384) (hb : b ≤ 16384) where
  abbrev here : Point
  here = at (pos (suc a)) (pos b)

  -- the states on the axes, and the one between them
  along : (m : ℕ) → sent_point m 0 ≡ at (pos 4096) (pos 0) → distance m 0 here ≤ 419430400
  unfolding distance squared_distance
  along m e = rw e (squares_most _ _ 12288 16384 419430400 (difference_most (suc a) 4096 12288 (omega arith) (omega arith)) (omega arith) tt)

  across : (m : ℕ) → sent_point m 2 ≡ at (pos 0) (pos 4096) → distance m 2 here ≤ 419430400
  unfolding distance squared_distance
  across m e = rw e (squares_most _ _ 16384 12288 419430400 (omega arith) (difference_most b 4096 12288 (omega arith) (omega arith)) tt)

  between : distance 2 1 here ≤ 419430400
  unfolding distance squared_distance sent_point sent27
  between = squares_most _ _ 13488 13488 419430400 (difference_most (suc a) 2896 13488 (omega arith) (omega arith)) (difference_most b 2896 13488 (omega arith) (omega arith)) tt

  mode_1 : Within 1 here (State (state_arc 1 (arc 0 (suc a) b)))
  unfolding state_arc state1 sent_point sent27
  mode_1 = go (leb b (suc a))
    where
      go : (t : Bool) → distance 1 ((0 + cond t 0 1) % 4 * 2) here ≤ 419430400
      go true = along 1 refl
      go false = across 1 refl

  mode_2 : Within 2 here (State (state_arc 2 (arc 0 (suc a) b)))
  unfolding state_arc state2 sent_point sent27
  mode_2 =
      let P : ℕ → Type 0 = λ s. distance 2 s here ≤ 419430400 in
      either P (ltb (sq (suc a + b)) (2 * sq (suc a))) 0 _ (along 2 refl) (either P (ltb (sq (suc a + b)) (2 * sq b)) 2 1 (across 2 refl) between)

  mode_3 : Within 3 here (State (state_arc 3 (arc 0 (suc a) b)))
  unfolding state_arc state3 ring3 distance squared_distance sent_point levels32 sent32
  mode_3 = go (leb b (2 * suc a)) refl
    where
      go : (t : Bool) → leb b (2 * suc a) ≡ t → distance 3 (get_or ring3 ((0 + cond t 0 1) % 4) 0) here ≤ 419430400
      go true e = squares_most _ _ 13312 15360 419430400 (difference_most (suc a) 3072 13312 (omega arith) (omega arith)) (difference_most b 1024 15360 (omega arith) (omega arith)) tt
      go false e =
          let l : 2 * suc a < b = leb-false b (2 * suc a) e in
          squares_most _ _ 9216 13312 419430400 (omega arith) (difference_most b 3072 13312 (omega arith) (omega arith)) tt

-- within 13312 of the level's point, 1 or 3
level-most : (x : ℕ) (t : Bool) → x ≤ 16384 → leb 2048 x ≡ t → nat_abs (sub_ℕ x (cond t 3072 1024)) ≤ 13312
level-most x true h e = let l : 2048 ≤ x = leb-true 2048 x e in difference_most x 3072 13312 (omega arith) (omega arith)
level-most x false h e = let l : x < 2048 = leb-false 2048 x e in difference_most x 1024 13312 (omega arith) (omega arith)

mode_4 : (a b : ℕ) → suc a ≤ 16384 → b ≤ 16384 → Within 4 (at (pos (suc a)) (pos b)) (State (state_arc 4 (arc 0 (suc a) b)))
unfolding state_arc state4 outer_size ring4 distance squared_distance sent_point levels32 sent32
mode_4 a zero ha hb = go (leb 2048 (suc a)) refl
  where
    go : (t : Bool) → leb 2048 (suc a) ≡ t → distance 4 (get_or ring4 ((0 + 3) % 4 * 4 + cond t 1 0 * 2) 0) (at (pos (suc a)) (pos 0)) ≤ 419430400
    go true e = squares_most _ 1024 13312 1024 419430400 (level-most (suc a) true ha e) (omega arith) tt
    go false e = squares_most _ 1024 13312 1024 419430400 (level-most (suc a) false ha e) (omega arith) tt
mode_4 a (suc b) ha hb = rw (not-zero b) (go (leb 2048 (suc b)) (leb 2048 (suc a)) refl refl)
  where
    go : (u t : Bool) → leb 2048 (suc b) ≡ u → leb 2048 (suc a) ≡ t → distance 4 (get_or ring4 (0 * 4 + cond u 1 0 * 2 + cond t 1 0) 0) (at (pos (suc a)) (pos (suc b))) ≤ 419430400
    go true true f e = squares_most _ _ 13312 13312 419430400 (level-most (suc a) true ha e) (level-most (suc b) true hb f) tt
    go true false f e = squares_most _ _ 13312 13312 419430400 (level-most (suc a) false ha e) (level-most (suc b) true hb f) tt
    go false true f e = squares_most _ _ 13312 13312 419430400 (level-most (suc a) true ha e) (level-most (suc b) false hb f) tt
    go false false f e = squares_most _ _ 13312 13312 419430400 (level-most (suc a) false ha e) (level-most (suc b) false hb f) tt

-- EVERY POINT

-- a turn of 90° keeps the distance, and with it the bound
module _ (m : ℕ) (hm : T (is_mode m)) where
  turned_within : (z : Point) → is_origin z ≡ false → Within m z (decide m z) → Within m (turned z) (decide m (turned z))
  unfolding turned_answer
  turned_within z o w = subst (Within m (turned z)) (sym (turn_decides m z hm)) (go (decide m z) (decide-off m hm z o) w)
    where
      go : (d : Region) → Off m d → Within m z d → Within m (turned z) (turned_answer m 1 d)
      go (State s) v w =
          subst (λ (k : ℕ). distance m (turns m k s) (turned z) ≤ 419430400) (let e : quarter_steps m ≡ 1 * quarter_steps m = omega arith in e)
          (subst (λ (n : ℕ). n ≤ 419430400) (sym (turn_keeps m s z hm v)) w)
      go Origin v w = tt

  turns_within : (k : ℕ) (z : Point) → is_origin z ≡ false → Within m z (decide m z) → Within m (turned_by k z) (decide m (turned_by k z))
  turns_within zero z o w = w
  turns_within (suc k) z o w = turned_within (turned_by k z) (off-turned k z o) (turns_within k z o w)

  arc_within : (a b : ℕ) → suc a ≤ 16384 → b ≤ 16384 → Within m (base m a b) (State (state_arc m (arc 0 (suc a) b)))
  unfolding state_arc distance sent_point
  arc_within a b ha hb =
      mode_cases (λ n. Within n (at (pos (suc a)) (pos b)) (State (state_arc n (arc 0 (suc a) b)))) (mode_1 a b ha hb) (mode_2 a b ha hb) (mode_3 a b ha hb) (mode_4 a b ha hb) (mode_1 a b ha hb) (mode_2 a b ha hb) m hm

  quarter_within : (k a b : ℕ) → suc a ≤ 16384 → b ≤ 16384 → Within m (turned_by k (base m a b)) (decide m (turned_by k (base m a b)))
  quarter_within k a b ha hb = turns_within k (base m a b) (base_off m a b) (subst (Within m (base m a b)) (sym (arc_decide m 0 a b (omega arith))) (arc_within a b ha hb))

  in_range_within : (z : Point) → T (in_range z) → Within m z (decide m z)
  unfolding in_range
  in_range_within z r = go (is_origin z) refl
    where
      go : (b : Bool) → is_origin z ≡ b → Within m z (decide m z)
      go true o = subst (Within m z) (sym (at_origin m z o)) tt
      go false o =
          let q = quartered z.re z.im o in
          let h = q.sizes 16384 (leb-true _ _ (is_true _ (and_left (coordinate_in z.re) (coordinate_in z.im) r))) (leb-true _ _ (is_true _ (and_right (coordinate_in z.re) (coordinate_in z.im) r))) in
          subst (λ (w : Point). Within m w (decide m w)) (sym q.is) (quarter_within q.k q.a q.b h.0 h.1)

pub most-distance : MostDistance
unfolding quadrant next_quadrant step turn quarter_steps is_origin sent27 sent_point in_first first quarters decide distance squared_distance
most-distance = record { at_most = λ m z s hm r e. subst (Within m z) e (in_range_within m hm z r); reached = (refl, refl) }

pub no_minimum : NoMinimum
unfolding quadrant next_quadrant step turn quarter_steps is_origin sent27 sent_point in_first sector first quarters decide distance squared_distance
no_minimum = record { decided = refl; to_decided = refl; to_another = refl }
