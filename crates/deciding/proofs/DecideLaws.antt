-- Deciding: the answer off the origin is a state of the mode, that of a sent point its state, and a turn of the point by 90° turns the
-- answer. Assumes nothing.
use mathlib.Core.Path.{◌≡◌, refl, sym, ap, ap₂, ◌∙◌, subst}
use mathlib.Core.Bool.{Bool, true, false, cond}
use mathlib.Core.List.{map}
use Prim.Native.Nat.{ℕ, zero, suc, ◌+◌, ◌*◌, ◌-◌, ◌%◌, ◌<◌, ◌≤◌}
use native.Mathlib.Omega.{arith}
use native.Mathlib.Decide.{dec_le}
use lib.Dec.{T, eqb, eqb→eq}
use lib.IntN.{ℤ}
use lib.ListN.{get_or}
use Rattle.line.specs.declared.Point.{Point}
use Rattle.line.specs.Table.{every}
use Rattle.line.specs.Mode.{is_mode, states, is_state, quadrant, next_quadrant, step, turn, turns, quarter_steps}
use Rattle.line.specs.Point.{at, is_origin, turned, turned_by, sent27, levels32, sent32, sent_point}
use Rattle.deciding.specs.Decide.{Region, State, Origin, in_first, sector, outer, first, quarters, turned_state, decide_by, decide, turned_answer}
use Rattle.std.specs.Prelude.{Option, Some, None}
use Rattle.deciding.specs.declared.Decided.{Decided}
use Rattle.deciding.specs.declared.SquaredUnits.{SquaredUnits}
use Rattle.deciding.specs.Distance.{distance, measured, decision}
use Rattle.deciding.specs.Sizes.{ring_of, ring_index}
use Rattle.deciding.specs.Laws.{DecidedState, DecidedSent, TurnDecides, states_of, distances_of, lost_of, Told}
use Rattle.line.proofs.TableLaws.{below_at}
use Rattle.line.proofs.StateLaws.{mode_cases, state_at_lem, of_state, turns_state, turns_add, four_quarters}
use Rattle.deciding.proofs.RingLaws.{by_ring, looked_up, origin_none}
use Rattle.deciding.proofs.RegionLaws.{before, turn_four, origin_turned, turn-before, turn-decide, off-turned}
use Rattle.deciding.proofs.OneRegion.{first_state, region_of}

-- THE ANSWER IS A STATE

-- a state of the mode
abbrev pub Off : ℕ → Region → Type 0
Off m (State y) = T (is_state m y)
Off m Origin = ⊥

pub decide-off : (m : ℕ) → T (is_mode m) → (z : Point) → is_origin z ≡ false → Off m (decide m z)
unfolding decide
decide-off m hm z o =
    let k : ℕ = quarters m z in
    let p : Point = turned_by ((4 - k) % 4) z in
    subst (λ (b : Bool). Off m (cond b Origin (State (turned_state m k (first m p))))) (sym o) (turns_state m hm (k * quarter_steps m) (first m p) (first_state m hm p))

pub at_origin : (m : ℕ) (z : Point) → is_origin z ≡ true → decide m z ≡ Origin
unfolding decide
at_origin m z e = ap (λ (b : Bool). cond b Origin (State (decide_by m (quarters m z) z))) e

pub decided_state : DecidedState
decided_state m z s hm e = go (is_origin z) refl
  where
    go : (b : Bool) → is_origin z ≡ b → T (is_state m s)
    go true o = let p : Origin ≡ State s = sym (at_origin m z o) ∙ e in let w : ◌≡◌ {A = ℕ} 0 1 = cc in absurd (omega arith)
    go false o = subst (Off m) e (decide-off m hm z o)

-- A SENT POINT

-- the answer is this state
abbrev is : Region → ℕ → Bool
is (State s) x = eqb s x
is Origin x = false

is_state_lem : (d : Region) (x : ℕ) → T (is d x) → d ≡ State x
is_state_lem (State s) x t = ap State (eqb→eq s x t)
is_state_lem Origin x t = absurd t

-- one computed test over modes and states
sent_tests : (m : ℕ) → T (is_mode m) → T (every (λ x. is (decide m (sent_point m x)) x) (states m))
unfolding states quadrant next_quadrant step turn quarter_steps is_origin sent27 levels32 sent32 sent_point in_first sector outer first quarters decide
sent_tests = mode_cases (λ m. T (every (λ x. is (decide m (sent_point m x)) x) (states m))) tt tt tt tt tt tt

pub decided_sent : DecidedSent
decided_sent m x hm hx = is_state_lem (decide m (sent_point m x)) x (state_at_lem m (λ z. is (decide m (sent_point m z)) z) (sent_tests m hm) x hx)

-- TURNS

turned_add : (m i j s : ℕ) → turned_state m i (turned_state m j s) ≡ turned_state m (i + j) s
turned_add m i j s =
    turns_add m (i * quarter_steps m) (j * quarter_steps m) s ∙ ap (λ (n : ℕ). turns m n s) (let e : i * quarter_steps m + j * quarter_steps m ≡ (i + j) * quarter_steps m = omega arith in e)

turned-whole : (m s : ℕ) → T (is_mode m) → T (is_state m s) → turned_state m 4 s ≡ s
turned-whole m s hm v = ap (λ (n : ℕ). turns m n s) (four_quarters m hm) ∙ (of_state m s hm v).whole

-- one more turn, after k of them
next-turn : (m k s : ℕ) → T (is_mode m) → T (is_state m s) → k < 4 → turned_state m ((k + 1) % 4) s ≡ turned_state m 1 (turned_state m k s)
next-turn m k s hm v h = go (dec_le k 2) ∙ sym (turned_add m 1 k s)
  where
    go : Dec (k ≤ 2) → turned_state m ((k + 1) % 4) s ≡ turned_state m (1 + k) s
    go (yes p) = ap (λ (n : ℕ). turned_state m n s) (let e : (k + 1) % 4 ≡ 1 + k = omega arith in e)
    go (no p) =
        ap (λ (n : ℕ). turned_state m n s) (let e : (k + 1) % 4 ≡ 0 = omega (arith, p) in e)
        ∙ ap (λ (n : ℕ). turns m n s) (let e : 0 * quarter_steps m ≡ 0 = omega arith in e)
        ∙ sym (turned-whole m s hm v) ∙ ap (λ (n : ℕ). turned_state m n s) (let e : 4 ≡ 1 + k = omega (arith, p) in e)

off_decides : (m : ℕ) (z : Point) → T (is_mode m) → is_origin z ≡ false → decide m (turned z) ≡ turned_answer m 1 (decide m z)
unfolding turned_answer
off_decides m z hm o =
    let i = region_of m hm z o in
    let j : ℕ = i.by in
    let h : j < 4 = i.small in
    let k : (4 - before j) % 4 ≡ ((4 - j) % 4 + 1) % 4 = eqb→eq _ _ (below_at (λ n. eqb ((4 - before n) % 4) (((4 - n) % 4 + 1) % 4)) 4 tt j h) in
    turn-decide m (turned z) (before j) (omega arith) (turn-before m z j h i.turn) (off-turned 1 z o)
    ∙ ap₂ (λ (n : ℕ) (w : Point). State (turned_state m n (first m w))) k (same_turn j h)
    ∙ ap State (next-turn m ((4 - j) % 4) (first m (turned_by j z)) hm (first_state m hm (turned_by j z)) (omega arith))
    ∙ ap (turned_answer m 1) (sym (turn-decide m z j h i.turn o))
  where
    same_turn : (j : ℕ) → j < 4 → turned_by (before j) (turned z) ≡ turned_by j z
    same_turn zero h = turn_four z
    same_turn (suc zero) h = refl
    same_turn (suc (suc zero)) h = refl
    same_turn (suc (suc (suc zero))) h = refl
    same_turn (suc (suc (suc (suc j)))) h = absurd (omega arith)

origin_decides : (m : ℕ) (z : Point) → is_origin z ≡ true → decide m (turned z) ≡ turned_answer m 1 (decide m z)
unfolding turned_answer
origin_decides m z e = at_origin m (turned z) (origin_turned z.re z.im ∙ e) ∙ ap (turned_answer m 1) (sym (at_origin m z e))

pub turn_decides : TurnDecides
turn_decides m z hm = go (is_origin z) refl
  where
    go : (b : Bool) → is_origin z ≡ b → decide m (turned z) ≡ turned_answer m 1 (decide m z)
    go true e = origin_decides m z e
    go false e = off_decides m z hm e

-- WHAT IS TOLD

lost_told : (m : ℕ) (p : Point) → lost_of (decision m p) ≡ cond (is_origin p) 1 0
unfolding decision
lost_told m p = go (is_origin p) refl
  where
    go : (b : Bool) → is_origin p ≡ b → lost_of (measured m p (decide m p)) ≡ cond (is_origin p) 1 0
    go true o = ap (λ (d : Region). lost_of (measured m p d)) (at_origin m p o) ∙ sym (ap (λ (b : Bool). cond b 1 0) o)
    go false o = ap (λ (d : Region). lost_of (measured m p d)) (sym (by_ring m p.re p.im o)) ∙ sym (ap (λ (b : Bool). cond b 1 0) o)

distance-told : (m : ℕ) (p : Point) (d : Region) → distances_of (measured m p d) ≡ map (λ (s : ℕ). distance m s p) (states_of (measured m p d))
distance-told m p (State s) = refl
distance-told m p Origin = refl

told : (m : ℕ) (p : Point) → Told m p (decision m p)
unfolding decision
told m p = record { state_is = refl; distance_is = distance-told m p (decide m p); lost_is = lost_told m p }

abbrev given : ℕ → ℕ → Option Decided
given s n = Some (record { state = s; distance = record { 0 = n } })

-- the ways of the code: at the origin, and off it
module _ (m : ℕ) (re im : ℤ) where
  both : (d : Region) (r : Option Decided) → r ≡ measured m (at re im) d → d ≡ decide m (at re im) → (r ≡ decision m (at re im)) × Told m (at re im) r
  unfolding decision
  both d r q e = let s : r ≡ decision m (at re im) = q ∙ ap (measured m (at re im)) e in (s, subst (Told m (at re im)) (sym s) (told m (at re im)))

  pub told_origin : is_origin (at re im) ≡ true → (None ≡ decision m (at re im)) × Told m (at re im) None
  told_origin o = both Origin None refl (origin_none m re im o)

  pub told_state : (s : ℕ) (d : SquaredUnits) → s ≡ get_or (ring_of m) (ring_index m re im) 0 → d.0 ≡ distance m s (at re im) → is_origin (at re im) ≡ false
      → (Some (record { state = s; distance = d }) ≡ decision m (at re im)) × Told m (at re im) (Some (record { state = s; distance = d }))
  told_state s d e q o = both (State s) (Some (record { state = s; distance = d })) (ap (λ (n : ℕ). given s n) q) (looked_up m re im (ring_of m) s refl e o)
