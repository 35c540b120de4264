-- What document 01 says of a point that is turns of one with re > 0 and im ≥ 0. Assumes nothing.
use mathlib.Core.Path.{◌≡◌, refl, sym, ap, ap₂, ◌∙◌}
use mathlib.Core.Bool.{Bool, true, false, ◌&&◌, cond}
use Prim.Native.Nat.{ℕ, zero, suc, ◌+◌, ◌*◌, ◌-◌, ◌/◌, ◌%◌, ◌<◌, ◌≤◌}
use native.Mathlib.Nat.{mod-lt}
use native.Mathlib.Omega.{arith}
use native.Mathlib.Decide.{dec_le}
use borrow.Author.Tests.{le-leb, lt-leb, ne_eqb}
use lib.Dec.{T, eqb, leb, ltb, eqb→eq}
use lib.ListN.{get_or}
use Rattle.line.specs.declared.Point.{Point}
use Rattle.line.specs.Table.{below, every}
use Rattle.line.specs.Mode.{column, turn, turns, step, quarter_steps, quadrant, next_quadrant}
use Rattle.line.specs.Point.{is_origin, turned_by}
use Rattle.deciding.specs.Decide.{State, sector, outer, first, turned_state, decide}
use Rattle.deciding.specs.Sizes.{sq}
use Rattle.deciding.proofs.Arcs.{arc, state1, state2, ring3, state3, ring4, outer_size, state4, state_arc}
use Rattle.line.proofs.ByMode.{mode_1, mode_2, mode_3, mode_4}
use Rattle.line.proofs.TableLaws.{below_at}
use Rattle.deciding.proofs.RegionLaws.{Turn, turned-decide, base, Sloped, sloped_1, sloped_3, turn_within, turn_past, turn_2, turn_4, turn_4_axis}

-- two numbers that read one column turn alike
turns_same : (m n : ℕ) → ((s : ℕ) → turn m s ≡ turn n s) → (k s : ℕ) → turns m k s ≡ turns n k s
turns_same m n f zero s = refl
turns_same m n f (suc k) s = f (turns m k s) ∙ ap (turn n) (turns_same m n f k s)

turned_same : (m n k s : ℕ) → ((x : ℕ) → turn m x ≡ turn n x) → quarter_steps m ≡ quarter_steps n → turned_state m k s ≡ turned_state n k s
turned_same m n k s f e = turns_same m n f (k * quarter_steps m) s ∙ ap (λ (q : ℕ). turns n (k * q) s) e

quarter_same : (m n : ℕ) → step m ≡ step n → quarter_steps m ≡ quarter_steps n
unfolding quarter_steps
quarter_same m n e = ap (λ (d : ℕ). 90 / d) e

pub not-zero : (n : ℕ) → eqb (suc n) 0 ≡ false
not-zero n = ne_eqb (suc n) 0 (λ e. omega arith)

pub base_off : (m a b : ℕ) → is_origin (base m a b) ≡ false
unfolding is_origin
base_off m a b = ap (λ (t : Bool). t && eqb b 0) (not-zero a)

module _ (m k a b : ℕ) (l : k < 4) where
  -- from the turn in the first region to the state
  reach : (j i d x : ℕ) → j < 4 → Turn m (base m a b) j → (k + 4 - j) % 4 ≡ i → first m (turned_by j (base m a b)) ≡ d
      → turned_state m i d ≡ x → decide m (turned_by k (base m a b)) ≡ State x
  reach j i d x p t e f g = turned-decide m k (base m a b) j l p t (base_off m a b) ∙ ap₂ (λ (n s : ℕ). State (turned_state m n s)) e f ∙ ap State g

-- modes 1 and 3: the state x of the first region, or the next, past n across for one along
module _ (m n x : ℕ) (edge : Sloped m n) (ring : ℕ → ℕ) (is-first : (z : Point) → first m z ≡ x)
    (turned : (i : ℕ) → i < 4 → turned_state m i x ≡ ring i) (k a b : ℕ) (l : k < 4) where
  sloped : decide m (turned_by k (base m a b)) ≡ State (ring ((k + cond (leb b (n * suc a)) 0 1) % 4))
  sloped = go (dec_le b (n * suc a))
    where
      answer : (j : ℕ) (t : Bool) → j < 4 → Turn m (base m a b) j → (k + 4 - j) % 4 ≡ (k + cond t 0 1) % 4 → leb b (n * suc a) ≡ t
          → decide m (turned_by k (base m a b)) ≡ State (ring ((k + cond (leb b (n * suc a)) 0 1) % 4))
      answer j t h q e f =
          reach m k a b l j ((k + cond t 0 1) % 4) x _ h q e (is-first _)
          (turned ((k + cond t 0 1) % 4) (mod-lt (k + cond t 0 1) (omega arith)) ∙ ap (λ (u : Bool). ring ((k + cond u 0 1) % 4)) (sym f))

      go : Dec (b ≤ n * suc a) → decide m (turned_by k (base m a b)) ≡ State (ring ((k + cond (leb b (n * suc a)) 0 1) % 4))
      go (yes p) = answer 0 true (omega arith) (turn_within m n a b edge p) (omega arith) (le-leb b (n * suc a) p)
      go (no p) = answer 3 false (omega arith) (turn_past m n a b edge (omega (arith, p))) (omega arith) (lt-leb b (n * suc a) (omega (arith, p)))

-- in what follows n is the mode's column
module _ (m n : ℕ) (c : n ≡ column m) (h : n ≤ 1) where
  turned_1 : (i : ℕ) → i < 4 → turned_state m i 0 ≡ i * 2
  unfolding turn step quarter_steps
  turned_1 i l =
      turned_same m 1 i 0 (λ s. sym (mode_1 _ _ _ _ m n c h)) (quarter_same m 1 (sym (mode_1 _ _ _ _ m n c h)))
      ∙ eqb→eq _ _ (below_at (λ j. eqb (turned_state 1 j 0) (j * 2)) 4 tt i l)

  arc_1 : (k a b : ℕ) → k < 4 → decide m (turned_by k (base m a b)) ≡ State (state1 (arc k (suc a) b))
  unfolding state1 first
  arc_1 k a b l =
      sloped m 1 0 (sloped_1 m n c h) (λ i. i * 2) (λ z. sym (mode_1 _ _ _ _ m n c h)) turned_1 k a b l
      ∙ ap (λ (x : ℕ). State ((k + cond (leb b x) 0 1) % 4 * 2)) (let e : 1 * suc a ≡ suc a = omega arith in e)

module _ (m n : ℕ) (c : n ≡ column m) (h : n ≡ 3) where
  turned_3 : (i : ℕ) → i < 4 → turned_state m i 13 ≡ get_or ring3 i 0
  unfolding turn step quarter_steps quadrant next_quadrant ring3
  turned_3 i l =
      turned_same m 3 i 13 (λ s. sym (mode_3 _ _ _ _ m n c h)) (quarter_same m 3 (sym (mode_3 _ _ _ _ m n c h)))
      ∙ eqb→eq _ _ (below_at (λ j. eqb (turned_state 3 j 13) (get_or ring3 j 0)) 4 tt i l)

  arc_3 : (k a b : ℕ) → k < 4 → decide m (turned_by k (base m a b)) ≡ State (state3 (arc k (suc a) b))
  unfolding state3 first
  arc_3 = sloped m 2 13 (sloped_3 m n c h) (λ i. get_or ring3 i 0) (λ z. sym (mode_3 _ _ _ _ m n c h)) turned_3

-- mode 2
turned_2 : (m n k s : ℕ) → n ≡ column m → n ≡ 2 → k < 4 → T (every (λ j. eqb (turned_state 2 j s) ((j * 2 + s) % 8)) (below 4)) → turned_state m k s ≡ (k * 2 + s) % 8
unfolding turn step
turned_2 m n k s c h l t =
    turned_same m 2 k s (λ x. sym (mode_2 _ _ _ _ m n c h)) (quarter_same m 2 (sym (mode_2 _ _ _ _ m n c h)))
    ∙ eqb→eq _ _ (below_at (λ j. eqb (turned_state 2 j s) ((j * 2 + s) % 8)) 4 t k l)

module _ (m n k : ℕ) (c : n ≡ column m) (h : n ≡ 2) (l : k < 4) where
  sectors : (p q : Bool) → turned_state m k (cond p 0 (cond q 2 1)) ≡ cond p (k * 2) (cond q ((k * 2 + 2) % 8) (k * 2 + 1))
  unfolding turn step quarter_steps
  sectors true q = turned_2 m n k 0 c h l tt ∙ (let e : (k * 2 + 0) % 8 ≡ k * 2 = omega arith in e)
  sectors false true = turned_2 m n k 2 c h l tt
  sectors false false = turned_2 m n k 1 c h l tt ∙ (let e : (k * 2 + 1) % 8 ≡ k * 2 + 1 = omega arith in e)

  first_2 : (z : Point) → first m z ≡ sector z
  unfolding first
  first_2 z = sym (mode_2 _ _ _ _ m n c h)

  arc_2 : (a b : ℕ) → decide m (turned_by k (base m a b)) ≡ State (state2 (arc k (suc a) b))
  unfolding sector state2
  arc_2 a b =
      reach m k a b l 0 k (sector (base m a b)) (state2 (arc k (suc a) b)) (omega arith) (turn_2 m n a b c h) (omega arith) (first_2 _)
      (sectors (ltb (sq (suc a + b)) (2 * sq (suc a))) (ltb (sq (suc a + b)) (2 * sq b)))

-- mode 4
module _ (m n : ℕ) (c : n ≡ column m) (h : 1 < n) (f : n ≡ 2 → ⊥) (g : n ≡ 3 → ⊥) where
  abbrev level : Bool → ℕ
  level t = cond t 1 0

  inner : (x y : Bool) (i : ℕ) → i < 4 → turns 4 (i * quarter_steps 4) (12 + level x + 2 * level y) ≡ get_or ring4 (i * 4 + level y * 2 + level x) 0
  unfolding turn step quarter_steps quadrant next_quadrant ring4
  inner true true i l = eqb→eq _ _ (below_at (λ j. eqb (turns 4 (j * quarter_steps 4) 15) (get_or ring4 (j * 4 + 2 + 1) 0)) 4 tt i l)
  inner true false i l = eqb→eq _ _ (below_at (λ j. eqb (turns 4 (j * quarter_steps 4) 13) (get_or ring4 (j * 4 + 0 + 1) 0)) 4 tt i l)
  inner false true i l = eqb→eq _ _ (below_at (λ j. eqb (turns 4 (j * quarter_steps 4) 14) (get_or ring4 (j * 4 + 2 + 0) 0)) 4 tt i l)
  inner false false i l = eqb→eq _ _ (below_at (λ j. eqb (turns 4 (j * quarter_steps 4) 12) (get_or ring4 (j * 4 + 0 + 0) 0)) 4 tt i l)

  turned_4 : (x y : Bool) (i : ℕ) → i < 4 → turned_state m i (12 + level x + 2 * level y) ≡ get_or ring4 (i * 4 + level y * 2 + level x) 0
  unfolding turn step
  turned_4 x y i l =
      turned_same m 4 i (12 + level x + 2 * level y) (λ s. sym (mode_4 _ _ _ _ m n c h f g)) (quarter_same m 4 (sym (mode_4 _ _ _ _ m n c h f g))) ∙ inner x y i l

  first_4 : (z : Point) → first m z ≡ 12 + outer z.re + 2 * outer z.im
  unfolding first
  first_4 z = sym (mode_4 _ _ _ _ m n c h f g)

  arc_4 : (k a b : ℕ) → k < 4 → decide m (turned_by k (base m a b)) ≡ State (state4 (arc k (suc a) b))
  unfolding state4 outer outer_size
  arc_4 k a zero l =
      reach m k a 0 l 1 ((k + 3) % 4) (12 + 0 + 2 * level (leb 2048 (suc a))) (state4 (arc k (suc a) 0)) (omega arith) (turn_4_axis m n a 0 c h f g refl) (omega arith) (first_4 _)
      (turned_4 false (leb 2048 (suc a)) ((k + 3) % 4) (omega arith) ∙ ap (λ (x : ℕ). get_or ring4 x 0) (let e : (k + 3) % 4 * 4 + level (leb 2048 (suc a)) * 2 + 0 ≡ (k + 3) % 4 * 4 + level (leb 2048 (suc a)) * 2 = omega arith in e))
  arc_4 k a (suc b) l =
      reach m k a (suc b) l 0 k (12 + level (leb 2048 (suc a)) + 2 * level (leb 2048 (suc b))) (state4 (arc k (suc a) (suc b))) (omega arith) (turn_4 m n a (suc b) c h f g (omega arith)) (omega arith) (first_4 _)
      (rw (not-zero b) (turned_4 (leb 2048 (suc a)) (leb 2048 (suc b)) k l))

-- every mode, by its column
pub arc_decide : (m k a b : ℕ) → k < 4 → decide m (turned_by k (base m a b)) ≡ State (state_arc m (arc k (suc a) b))
unfolding state_arc
arc_decide m k a b l = go (column m) refl
  where
    low : (n : ℕ) → n ≡ column m → n ≤ 1 → decide m (turned_by k (base m a b)) ≡ State (state_arc m (arc k (suc a) b))
    low n c h = arc_1 m n c h k a b l ∙ ap State (mode_1 _ _ _ _ m n c h)

    go : (n : ℕ) → n ≡ column m → decide m (turned_by k (base m a b)) ≡ State (state_arc m (arc k (suc a) b))
    go zero c = low 0 c (omega arith)
    go (suc zero) c = low 1 c (omega arith)
    go (suc (suc zero)) c = arc_2 m 2 k c refl l a b ∙ ap State (mode_2 _ _ _ _ m 2 c refl)
    go (suc (suc (suc zero))) c = arc_3 m 3 c refl k a b l ∙ ap State (mode_3 _ _ _ _ m 3 c refl)
    go (suc (suc (suc (suc i)))) c =
        let n : ℕ = suc (suc (suc (suc i))) in
        let h : 1 < n = omega arith in
        let f : n ≡ 2 → ⊥ = λ e. omega arith in
        let g : n ≡ 3 → ⊥ = λ e. omega arith in
        arc_4 m n c h f g k a b l ∙ ap State (mode_4 _ _ _ _ m n c h f g)
