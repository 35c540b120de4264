-- The states of a mode: by arithmetic, their turns, and the points that they are sent at. Assumes nothing.
use mathlib.Core.Path.{◌≡◌, refl, sym, ap, ◌∙◌, subst}
use mathlib.Core.Bool.{Bool, true, false, ◌&&◌, ◌||◌, not}
use mathlib.Core.List.{List, [], ◌∷◌, map}
use Prim.Native.Nat.{ℕ, zero, suc, ◌+◌, ◌*◌, ◌%◌, ◌<◌, ◌≤◌}
use native.Mathlib.Omega.{arith}
use native.Mathlib.Decide.{dec_lt}
use borrow.Author.Tests.{le-ltb}
use lib.Dec.{T, eqb, ltb, leb, eqb→eq, ltb→lt, leb→le}
use lib.ListN.{get_or}
use Rattle.line.specs.declared.Point.{Point}
use Rattle.line.specs.Table.{member, below, every}
use Rattle.line.specs.Mode.{column, is_mode, step, states, is_state, quadrant, next_quadrant, turn, turns, quarter_steps, whole_steps}
use Rattle.line.specs.Point.{in_range, is_origin, turned, sent27, levels32, sent32, sent_point, SentTurned}
use Rattle.line.proofs.ByMode.{mode_1, mode_2, mode_3, mode_4}
use Rattle.line.proofs.TableLaws.{and_right, every-at, below_at, all, test_at, no_so, alike, alike_eq}

-- a test that is the membership below n, and false from n on, is the membership
test_is_member : (f : ℕ → Bool) (l : List ℕ) (n : ℕ) → T (every (λ s. alike (f s) (member s l)) (below n)) → T (every (λ x. ltb x n) l)
    → ((s : ℕ) → n ≤ s → f s ≡ false) → (s : ℕ) → f s ≡ member s l
test_is_member f l n t u v s = go (dec_lt s n)
  where
    go : Dec (s < n) → f s ≡ member s l
    go (yes h) = alike_eq (f s) (member s l) (below_at (λ x. alike (f x) (member x l)) n t s h)
    go (no h) =
        v s (omega (arith, h)) ∙ sym (no_so (member s l) (λ k. let z : s < n = ltb→lt s n (every-at (λ x. ltb x n) l s u k) in omega (arith, h)))

from_limit : (n : ℕ) (g : ℕ → Bool) (s : ℕ) → n ≤ s → ltb s n && g s ≡ false
from_limit n g s h = ap (λ (b : Bool). b && g s) (le-ltb s n h)

-- k is the mode's column, as the code found it
module _ (m k s : ℕ) (e : k ≡ column m) where
  pub states_1 : k ≤ 1 → ltb s 8 && eqb (s % 2) 0 ≡ is_state m s
  unfolding states is_state
  states_1 h =
      test_is_member (λ x. ltb x 8 && eqb (x % 2) 0) (0 ∷ 2 ∷ 4 ∷ 6 ∷ []) 8 tt tt (from_limit 8 (λ x. eqb (x % 2) 0)) s
      ∙ ap (member s) (mode_1 _ _ _ _ m k e h)

  pub states_2 : k ≡ 2 → ltb s 8 ≡ is_state m s
  unfolding states is_state
  states_2 h = test_is_member (λ x. ltb x 8) (below 8) 8 tt tt (λ x. le-ltb x 8) s ∙ ap (member s) (mode_2 _ _ _ _ m k e h)

  pub states_3 : k ≡ 3 → ltb s 16 && eqb (s % 4) 1 ≡ is_state m s
  unfolding states is_state
  states_3 h =
      test_is_member (λ x. ltb x 16 && eqb (x % 4) 1) (1 ∷ 5 ∷ 13 ∷ 9 ∷ []) 16 tt tt (from_limit 16 (λ x. eqb (x % 4) 1)) s
      ∙ ap (member s) (mode_3 _ _ _ _ m k e h)

  pub states_4 : 1 < k → (k ≡ 2 → ⊥) → (k ≡ 3 → ⊥) → ltb s 16 ≡ is_state m s
  unfolding states is_state
  states_4 h p q = test_is_member (λ x. ltb x 16) (below 16) 16 tt tt (λ x. le-ltb x 16) s ∙ ap (member s) (mode_4 _ _ _ _ m k e h p q)

-- EACH MODE AND EACH STATE

-- what holds of the six modes holds of every mode
pub mode_cases : (P : ℕ → Type 0) → P 1 → P 2 → P 3 → P 4 → P 5 → P 6 → (m : ℕ) → T (is_mode m) → P m
unfolding is_mode
mode_cases P a b c d e f zero h = absurd h
mode_cases P a b c d e f (suc zero) h = a
mode_cases P a b c d e f (suc (suc zero)) h = b
mode_cases P a b c d e f (suc (suc (suc zero))) h = c
mode_cases P a b c d e f (suc (suc (suc (suc zero)))) h = d
mode_cases P a b c d e f (suc (suc (suc (suc (suc zero))))) h = e
mode_cases P a b c d e f (suc (suc (suc (suc (suc (suc zero)))))) h = f
mode_cases P a b c d e f (suc (suc (suc (suc (suc (suc (suc n))))))) h =
    let m : ℕ = suc (suc (suc (suc (suc (suc (suc n)))))) in
    let l : m ≤ 6 = leb→le m 6 (and_right (leb 1 m) (leb m 6) h) in
    absurd (omega arith)

-- what reads a mode by its column alone holds of every mode if it does of the four columns: a proof for 1 is one for 5, and one for 2 for 6
pub column_cases : (P : ℕ → Type 0) → P 1 → P 2 → P 3 → P 4 → (P 1 → P 5) → (P 2 → P 6) → (m : ℕ) → T (is_mode m) → P m
column_cases P a b c d e f m h = mode_cases P a b c d (e a) (f b) m h

-- a test of each state of a mode, at one of them
pub state_at_lem : (m : ℕ) (f : ℕ → Bool) → T (every f (states m)) → (x : ℕ) → T (is_state m x) → T (f x)
unfolding is_state
state_at_lem m f t x h = every-at f (states m) x t h

-- one computed test over modes and states: a state's turn is a state and a whole turn leaves it; its point is off the origin and in range
state_tests : ℕ → ℕ → List Bool
state_tests m x =
    is_state m (turn m x) ∷ eqb (turns m (whole_steps m) x) x ∷ not (is_origin (sent_point m x)) ∷ in_range (sent_point m x) ∷ ltb x 16 ∷ []

tests : (m : ℕ) → T (is_mode m) → T (every (λ x. all (state_tests m x)) (states m))
unfolding state_tests states is_state quadrant next_quadrant step turn whole_steps in_range is_origin sent27 levels32 sent32 sent_point
tests = mode_cases (λ m. T (every (λ x. all (state_tests m x)) (states m))) tt tt tt tt tt tt

pub record OfState (m x : ℕ) : Type 0 where
  pub turned : T (is_state m (turn m x))
  pub whole : turns m (whole_steps m) x ≡ x
  pub off : T (not (is_origin (sent_point m x)))
  pub range : T (in_range (sent_point m x))
  pub small : x < 16

pub of_state : (m x : ℕ) → T (is_mode m) → T (is_state m x) → OfState m x
unfolding state_tests
of_state m x hm hx =
    let at : (i : ℕ) → T (get_or (state_tests m x) i true) = λ i. test_at (state_tests m x) i (state_at_lem m (λ z. all (state_tests m z)) (tests m hm) x hx) in
    record { turned = at 0; whole = eqb→eq _ _ (at 1); off = at 2; range = at 3; small = ltb→lt x 16 (at 4) }

-- TURNS

pub turns_state : (m : ℕ) → T (is_mode m) → (k x : ℕ) → T (is_state m x) → T (is_state m (turns m k x))
turns_state m hm zero x h = h
turns_state m hm (suc k) x h = (of_state m (turns m k x) hm (turns_state m hm k x h)).turned

pub turns_add : (m i j s : ℕ) → turns m i (turns m j s) ≡ turns m (i + j) s
turns_add m zero j s = ap (λ (n : ℕ). turns m n s) (let e : j ≡ 0 + j = omega arith in e)
turns_add m (suc i) j s = ap (turn m) (turns_add m i j s) ∙ ap (λ (n : ℕ). turns m n s) (let e : suc (i + j) ≡ suc i + j = omega arith in e)

pub four_quarters : (m : ℕ) → T (is_mode m) → 4 * quarter_steps m ≡ whole_steps m
unfolding step quarter_steps whole_steps
four_quarters = mode_cases (λ m. 4 * quarter_steps m ≡ whole_steps m) refl refl refl refl refl refl

-- two functions with one list of values on the members of a list
same_or : (f g : ℕ → Point) (x y : ℕ) (t b : Bool) → eqb x y ≡ b → f y ≡ g y → (T t → f x ≡ g x) → T (b || t) → f x ≡ g x
same_or f g x y t true p e k h = let q : x ≡ y = eqb→eq x y (subst T (sym p) tt) in ap f q ∙ e ∙ ap g (sym q)
same_or f g x y t false p e k h = k h

same_at : (f g : ℕ → Point) (xs : List ℕ) (x : ℕ) → map f xs ≡ map g xs → T (member x xs) → f x ≡ g x
same_at f g [] x e h = absurd h
same_at f g (y ∷ ys) x e h =
    let e0 : f y ≡ g y = cc in
    let e1 : map f ys ≡ map g ys = cc in
    same_or f g x y (member x ys) (eqb x y) refl e0 (same_at f g ys x e1) h

pub sent-turned : SentTurned
unfolding is_state
sent-turned m x hm hx =
    same_at (λ s. sent_point m (turns m (quarter_steps m) s)) (λ s. turned (sent_point m s)) (states m) x
    (mode_cases (λ n. map (λ s. sent_point n (turns n (quarter_steps n) s)) (states n) ≡ map (λ s. turned (sent_point n s)) (states n))
    (unfold states step turn quarter_steps sent27 sent_point in refl) (unfold states step turn quarter_steps sent27 sent_point in refl)
    (unfold states step turn quarter_steps quadrant next_quadrant levels32 sent32 sent_point in refl)
    (unfold states step turn quarter_steps quadrant next_quadrant levels32 sent32 sent_point in refl)
    (unfold states step turn quarter_steps sent27 sent_point in refl) (unfold states step turn quarter_steps sent27 sent_point in refl) m hm)
    hx
