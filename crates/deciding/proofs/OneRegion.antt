-- Each point off the origin lies in the region of one state and in no other's, and is decided as that state: in a quarter of the plane by
-- the inequalities, in the others as its turns. Assumes nothing.
use mathlib.Core.Path.{◌≡◌, refl, sym, ap, ap₂, ◌∙◌, subst}
use mathlib.Core.Bool.{Bool, true, false, ◌&&◌, cond}
use mathlib.Core.List.{List, [], ◌∷◌}
use Prim.Native.Nat.{ℕ, zero, suc, ◌+◌, ◌*◌, ◌-◌, ◌%◌, ◌<◌, ◌≤◌}
use native.Mathlib.Omega.{arith}
use native.Mathlib.Nat.{mod-lt}
use native.Mathlib.Decide.{dec_le}
use borrow.Author.Tests.{lt-ltb}
use lib.Dec.{T, eqb, ltb, leb, eqb→eq, ltb→lt}
use lib.IntN.{ℤ, pos, negsuc, nat_abs, ◌+ℤ◌, ◌*ℤ◌}
use lib.Signed.{lt_z}
use Rattle.line.specs.declared.Point.{Point}
use Rattle.line.specs.Table.{member, below, every}
use Rattle.line.specs.Mode.{by_mode, is_mode, states, is_state, quadrant, next_quadrant, step, turn, quarter_steps}
use Rattle.line.specs.Point.{at, is_origin, turned_by}
use Rattle.line.proofs.StateLaws.{mode_cases, state_at_lem, states_2}
use Rattle.line.proofs.TableLaws.{and_left, and_right, alike, alike_eq, every-at, below_at, pairs_below}
use Rattle.deciding.specs.Decide.{State, square, in_first, sector, outer, first, turned_state, decide}
use Rattle.deciding.specs.Regions.{about0, about45, quarters_to, region_back, in_region, in_sector}
use Rattle.deciding.specs.Laws.{InOneRegion, InOneSector}
use Rattle.deciding.proofs.RegionLaws.{TurnIn, Turn, turn_add, turn_mod, turn_by, turned-decide, base, Sloped, sloped_1, sloped_3, turn_within, turn_past, turn_2, turn_4, turn_4_axis}
use Rattle.deciding.proofs.SizeLaws.{not-zero, base_off}
use Rattle.deciding.proofs.SectorLaws.{here, three, about0-left, about45_out}

-- ONE TURN OF THE FIRST REGION

at_each : {f : Point → Bool} {z : Point} {j : ℕ} → TurnIn f z j → (i : ℕ) → i < 4 → f (turned_by i z) ≡ eqb i j
at_each t zero h = t.at_0
at_each t (suc zero) h = t.at_1
at_each t (suc (suc zero)) h = t.at_2
at_each t (suc (suc (suc zero))) h = t.at_3
at_each t (suc (suc (suc (suc i)))) h = absurd (omega arith)

-- `region_back` of the turn i of a point whose turn j is in the first region and there decided as c
abbrev region_at : ℕ → ℕ → ℕ → ℕ → ℕ → Bool
region_at m x i j c =
    by_mode m (eqb i j) (cond (eqb (x % 2) 0) (cond (eqb i 0) (eqb c 0) (eqb i 3 && eqb c 2)) (eqb i 0 && eqb c 1)) (eqb i j) (eqb i j && eqb (c % 4) (x % 4))

-- what j and c can be for a point with re > 0 and im ≥ 0
abbrev turns_in : ℕ → List ℕ
turns_in m = by_mode m (0 ∷ 3 ∷ []) (0 ∷ []) (0 ∷ 3 ∷ []) (0 ∷ 1 ∷ [])

abbrev firsts : ℕ → List ℕ
firsts m = by_mode m (0 ∷ []) (0 ∷ 1 ∷ 2 ∷ []) (13 ∷ []) (12 ∷ 13 ∷ 14 ∷ 15 ∷ [])

-- of a point with re > 0 and im ≥ 0: its turn that lies in the first region, and what the regions say of each of its turns; again by what a
-- mode reads
record BasedIn (ways : List ℕ) (region : Point → Bool) (z : Point) (Regions : ℕ → Type 0) : Type 0 where
  by : ℕ
  among : T (member by ways)
  turn : TurnIn region z by
  regions : Regions by

abbrev Based : ℕ → Point → Type 0
Based m z =
    BasedIn (turns_in m) (in_first m) z (λ j. (x i : ℕ) → i < 4 → region_back m x (turned_by i z) ≡ region_at m x i j (first m (turned_by j z)))

-- modes 1 and 3
sloped_turn : (m n a b : ℕ) → Sloped m n → {A : Type 0} → ((j : ℕ) → T (member j (0 ∷ 3 ∷ [])) → Turn m (base m a b) j → A) → A
sloped_turn m n a b e {A} f = go (dec_le b (n * suc a))
  where
    go : Dec (b ≤ n * suc a) → A
    go (yes p) = f 0 tt (turn_within m n a b e p)
    go (no p) = f 3 tt (turn_past m n a b e (omega (arith, p)))

-- mode 4: Q3 Q4 of the levels
abbrev corner : Point → ℕ
corner p = outer p.re + 2 * outer p.im

first_corner : (p : Point) → T (member (first 4 p) (firsts 4)) × (first 4 p % 4 ≡ corner p)
unfolding first outer
first_corner p = go (leb 2048 (nat_abs p.re)) (leb 2048 (nat_abs p.im))
  where
    go : (t u : Bool) → T (member (12 + cond t 1 0 + 2 * cond u 1 0) (firsts 4)) × ((12 + cond t 1 0 + 2 * cond u 1 0) % 4 ≡ cond t 1 0 + 2 * cond u 1 0)
    go true true = (tt, refl)
    go true false = (tt, refl)
    go false true = (tt, refl)
    go false false = (tt, refl)

-- what holds of both states holds of the chosen one
pub either : (P : ℕ → Type 0) (b : Bool) (x y : ℕ) → P x → P y → P (cond b x y)
either P true x y p q = p
either P false x y p q = q

sector_among : (z : Point) → T (member (sector z) (firsts 2))
unfolding sector
sector_among z =
    let P : ℕ → Type 0 = λ s. T (member s (firsts 2)) in
    let s : ℤ = square (z.re +ℤ z.im) in
    let past : Bool = lt_z s (pos 2 *ℤ square z.im) in
    either P (lt_z s (pos 2 *ℤ square z.re)) 0 (cond past 2 1) tt (either P past 2 1 tt tt)

first_among : (m : ℕ) → T (is_mode m) → (z : Point) → T (member (first m z) (firsts m))
first_among =
    mode_cases (λ m. (z : Point) → T (member (first m z) (firsts m))) (unfold first in (λ z. tt))
    (unfold first in sector_among) (unfold first in (λ z. tt))
    (λ z. (first_corner z).0) (unfold first in (λ z. tt)) (unfold first in sector_among)

-- the state of a point of the first region is one of the mode
pub first_state : (m : ℕ) → T (is_mode m) → (z : Point) → T (is_state m (first m z))
unfolding is_state states
first_state m hm z = every-at (is_state m) (firsts m) (first m z) (states_of_lem m hm) (first_among m hm z)
  where
    states_of_lem : (m : ℕ) → T (is_mode m) → T (every (is_state m) (firsts m))
    states_of_lem = mode_cases (λ m. T (every (is_state m) (firsts m))) tt tt tt tt tt tt

same_at : (i j : ℕ) (f : ℕ → Bool) → eqb i j && f i ≡ eqb i j && f j
same_at i j f = go (eqb i j) refl
  where
    go : (t : Bool) → eqb i j ≡ t → t && f i ≡ t && f j
    go true e = ap f (eqb→eq i j (subst T (sym e) tt))
    go false e = refl

module _ (a b : ℕ) where
  based_1 : Based 1 (base 1 a b)
  unfolding first
  based_1 = sloped_turn 1 1 a b (sloped_1 1 1 refl (omega arith)) (λ j h t. record { by = j; among = h; turn = t; regions = λ x i l. at_each t i l })

  based_3 : Based 3 (base 3 a b)
  unfolding first
  based_3 = sloped_turn 3 2 a b (sloped_3 3 3 refl refl) (λ j h t. record { by = j; among = h; turn = t; regions = λ x i l. at_each t i l })

  -- what `three` says at each turn
  even : (i : ℕ) → i < 4 → about0 (turned_by i (here a b)) ≡ cond (eqb i 0) (eqb (sector (here a b)) 0) (eqb i 3 && eqb (sector (here a b)) 2)
  even zero l = (three a b).0
  even (suc zero) l = about0-left b _
  even (suc (suc zero)) l = about0-left (suc a) _
  even (suc (suc (suc zero))) l = (three a b).1
  even (suc (suc (suc (suc i)))) l = absurd (omega arith)

  odd : (i : ℕ) → i < 4 → about45 (turned_by i (here a b)) ≡ eqb i 0 && eqb (sector (here a b)) 1
  odd zero l = (three a b).2
  odd (suc i) l =
      about45_out _ (at_each (turn_2 2 2 a b refl refl) (suc i) l ∙ not-zero i) ∙ ap (λ (t : Bool). t && eqb (sector (here a b)) 1) (sym (not-zero i))

  based_2 : Based 2 (base 2 a b)
  unfolding first
  based_2 = record { by = 0; among = tt; turn = turn_2 2 2 a b refl refl; regions = λ x i l. ap₂ (cond (eqb (x % 2) 0)) (even i l) (odd i l) }

  based_4 : Based 4 (base 4 a b)
  based_4 = go (dec_le b 0)
    where
      at_turn : (j : ℕ) → T (member j (0 ∷ 1 ∷ [])) → Turn 4 (base 4 a b) j → Based 4 (base 4 a b)
      at_turn j h t =
          record {
            by = j;
            among = h;
            turn = t;
            regions = λ x i l.
                ap (λ (u : Bool). u && eqb (corner (turned_by i (base 4 a b))) (x % 4)) (at_each t i l)
                ∙ same_at i j (λ n. eqb (corner (turned_by n (base 4 a b))) (x % 4))
                ∙ ap (λ (n : ℕ). eqb i j && eqb n (x % 4)) (sym (first_corner (turned_by j (base 4 a b))).1);
          }

      go : Dec (b ≤ 0) → Based 4 (base 4 a b)
      go (yes p) = at_turn 1 tt (turn_4_axis 4 4 a b refl (omega arith) (λ e. omega arith) (λ e. omega arith) (omega arith))
      go (no p) = at_turn 0 tt (turn_4 4 4 a b refl (omega arith) (λ e. omega arith) (λ e. omega arith) (omega (arith, p)))

-- modes 5 and 6 read the columns of 1 and 2
based : (m : ℕ) → T (is_mode m) → (a b : ℕ) → Based m (base m a b)
unfolding in_first first
based = mode_cases (λ m. (a b : ℕ) → Based m (base m a b)) based_1 based_2 based_3 based_4 based_1 based_2

-- EVERY POINT OFF THE ORIGIN

-- a point as k turns of one with re > 0 and im ≥ 0
pub record Quartered (z : Point) : Type 0 where
  pub k : ℕ
  pub a : ℕ
  pub b : ℕ
  pub small : k < 4
  pub is : z ≡ turned_by k (at (pos (suc a)) (pos b))
  pub sizes : (n : ℕ) → nat_abs z.re ≤ n → nat_abs z.im ≤ n → (suc a ≤ n) × (b ≤ n)

pub quartered : (re im : ℤ) → is_origin (at re im) ≡ false → Quartered (at re im)
unfolding is_origin
quartered (pos zero) (pos zero) o = absurd (subst T o tt)
quartered (pos (suc x)) (pos y) o = record { k = 0; a = x; b = y; small = omega arith; is = refl; sizes = λ n h k. (h, k) }
quartered (pos zero) (pos (suc y)) o = record { k = 1; a = y; b = 0; small = omega arith; is = refl; sizes = λ n h k. (k, h) }
quartered (negsuc x) (pos (suc y)) o = record { k = 1; a = y; b = suc x; small = omega arith; is = refl; sizes = λ n h k. (k, h) }
quartered (negsuc x) (pos zero) o = record { k = 2; a = x; b = 0; small = omega arith; is = refl; sizes = λ n h k. (h, k) }
quartered (negsuc x) (negsuc y) o = record { k = 2; a = x; b = suc y; small = omega arith; is = refl; sizes = λ n h k. (h, k) }
quartered (pos zero) (negsuc y) o = record { k = 3; a = y; b = 0; small = omega arith; is = refl; sizes = λ n h k. (k, h) }
quartered (pos (suc x)) (negsuc y) o = record { k = 3; a = y; b = suc x; small = omega arith; is = refl; sizes = λ n h k. (k, h) }

-- the turn of a point that lies in the first region, where no other does
pub record InOne (m : ℕ) (z : Point) : Type 0 where
  pub by : ℕ
  pub small : by < 4
  pub turn : Turn m z by

turns_few : (m j : ℕ) → T (is_mode m) → T (member j (turns_in m)) → j < 4
turns_few m j hm t = ltb→lt j 4 (every-at (λ i. ltb i 4) (turns_in m) j (mode_cases (λ n. T (every (λ i. ltb i 4) (turns_in n))) tt tt tt tt tt tt m hm) t)

pub region_of : (m : ℕ) → T (is_mode m) → (z : Point) → is_origin z ≡ false → InOne m z
region_of m hm z o =
    let q = quartered z.re z.im o in
    let i = based m hm q.a q.b in
    let e : z ≡ turned_by q.k (base m q.a q.b) = q.is in
    record {
      by = (i.by + 3 * q.k) % 4;
      small = omega arith;
      turn = subst (λ (w : Point). Turn m w ((i.by + 3 * q.k) % 4)) (sym e) (turn_by m q.k (base m q.a q.b) i.by (turns_few m i.by hm i.among) i.turn);
    }

-- the state of k turns of a point, and what the region of a state x says of it
abbrev state_at : ℕ → ℕ → ℕ → ℕ → ℕ
state_at m k j c = turned_state m ((k + 4 - j) % 4) c

abbrev region_test : ℕ → ℕ → ℕ → ℕ → ℕ → Bool
region_test m k j c x = alike (region_at m x ((k + 4 - quarters_to m x) % 4) j c) (eqb x (state_at m k j c))

-- one computed test: modes, turns, states of the first region, states of the mode
abbrev region_tests : ℕ → ℕ → ℕ → ℕ → Bool
region_tests m k j c = is_state m (state_at m k j c) && every (λ x. ltb (quarters_to m x) 4 && region_test m k j c x) (states m)

tests : (m : ℕ) → T (is_mode m) → T (every (λ k. every (λ j. every (region_tests m k j) (firsts m)) (turns_in m)) (below 4))
unfolding states is_state quadrant next_quadrant step turn quarter_steps quarters_to
tests = mode_cases (λ m. T (every (λ k. every (λ j. every (region_tests m k j) (firsts m)) (turns_in m)) (below 4))) tt tt tt tt tt tt

-- from k turns to the place in the first region, by the turns that lead to the state x
turned-back : (n k : ℕ) (z : Point) → n < 4 → k < 4 → turned_by ((4 - n) % 4) (turned_by k z) ≡ turned_by ((k + 4 - n) % 4) z
turned-back n k z h l =
    turn_add ((4 - n) % 4) k z ∙ turn_mod ((4 - n) % 4 + k) z (omega arith)
    ∙ ap (λ (i : ℕ). turned_by i z) (eqb→eq (((4 - n) % 4 + k) % 4) ((k + 4 - n) % 4) (pairs_below (λ c d. eqb (((4 - c) % 4 + d) % 4) ((d + 4 - c) % 4)) 4 4 tt n k h l))

-- what `InOneRegion` says of a point
abbrev One : ℕ → Point → Type 0
One m z = (s : ℕ) × T (is_state m s) × (decide m z ≡ State s) × ((x : ℕ) → T (is_state m x) → in_region m x z ≡ eqb x s)

module _ (m : ℕ) (hm : T (is_mode m)) (k a b : ℕ) (l : k < 4) where
  abbrev quarter : Based m (base m a b)
  quarter = based m hm a b

  abbrev by : ℕ
  by = quarter.by

  -- the state that its turn in the first region has there
  abbrev own : ℕ
  own = first m (turned_by by (base m a b))

  passed : T (region_tests m k by own)
  passed =
      every-at (region_tests m k by) (firsts m) own
      (every-at (λ j. every (region_tests m k j) (firsts m)) (turns_in m) by
      (below_at (λ n. every (λ j. every (region_tests m n j) (firsts m)) (turns_in m)) 4 (tests m hm) k l) quarter.among)
      (first_among m hm (turned_by by (base m a b)))

  each_region : (x : ℕ) → T (is_state m x) → in_region m x (turned_by k (base m a b)) ≡ eqb x (state_at m k by own)
  unfolding in_region
  each_region x hx =
      let n : ℕ = quarters_to m x in
      let t : T (ltb n 4 && region_test m k by own x) =
      state_at_lem m (λ y. ltb (quarters_to m y) 4 && region_test m k by own y) (and_right (is_state m (state_at m k by own)) _ passed) x hx in
      ap (region_back m x) (turned-back n k (base m a b) (ltb→lt n 4 (and_left (ltb n 4) (region_test m k by own x) t)) l)
      ∙ quarter.regions x ((k + 4 - n) % 4) (mod-lt (k + 4 - n) (omega arith))
      ∙ alike_eq (region_at m x ((k + 4 - n) % 4) by own) _ (and_right (ltb n 4) (region_test m k by own x) t)

  in_one : One m (turned_by k (base m a b))
  in_one = (
    state_at m k by own,
    and_left (is_state m (state_at m k by own)) (every (λ x. ltb (quarters_to m x) 4 && region_test m k by own x) (states m)) passed,
    turned-decide m k (base m a b) by l (turns_few m by hm quarter.among) quarter.turn (base_off m a b),
    each_region,
  )

pub in_one_region : InOneRegion
in_one_region m p hm o = let q = quartered p.re p.im o in subst (One m) (sym q.is) (in_one m hm q.k q.a q.b q.small)

pub in_one_sector : InOneSector
unfolding is_mode
in_one_sector p o = each (in_one_region 2 p tt o)
  where
    state_is : (i : ℕ) → ltb i 8 ≡ is_state 2 i
    state_is i = states_2 2 2 i refl refl

    each : One 2 p → (k : ℕ) × (k < 8) × (decide 2 p ≡ State k) × ((i : ℕ) → i < 8 → in_sector i p ≡ eqb i k)
    each (k, t, d, f) =
        (k, ltb→lt k 8 (subst T (sym (state_is k)) t), d, λ i l. f i (subst T (sym (lt-ltb i 8 l) ∙ state_is i) tt))
