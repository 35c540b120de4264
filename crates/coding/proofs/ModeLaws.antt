-- The finite facts of the code, read off one computed test over modes, pairs of states and groups. Assumes nothing.
use Prim.Native.Nat.{ℕ, ◌+◌, ◌*◌, ◌-◌, ◌%◌, ◌^◌}
use mathlib.Core.Path.{sym}
use mathlib.Core.Bool.{Bool, true, ◌&&◌}
use mathlib.Core.List.{List, [], ◌∷◌}
use lib.Dec.{T, ltb, eqb, eqb→eq, ltb→lt}
use lib.ListN.{get_or}
use Rattle.line.specs.Table.{entry, row_from, below, every}
use Rattle.line.specs.Mode.{is_mode, width, step, states, is_state, quadrant, next_quadrant, turn, turns, whole_steps, face}
use Rattle.coding.specs.Code.{changes4, changes8, changes16, coded, eighths, turn_row, group}
use Rattle.coding.specs.Rule.{place, turns_for, TableByRule}
use Rattle.coding.specs.Laws.{quarter_turns, turns_of, TableTurns, EachPair, EachGroup}
use Rattle.line.proofs.TableLaws.{and_left, and_right, below_at, pairs_below, all, test_at}
use Rattle.line.proofs.StateLaws.{mode_cases, state_at_lem}

-- the steps from the face of x to that of y: the last row that passes is 0
steps_to : ℕ → ℕ → ℕ → ℕ
steps_to m x y = row_from (λ k. eqb (face m (turns m k x)) (face m y)) 0 (whole_steps m - 1)

pair_tests : ℕ → ℕ → ℕ → List Bool
pair_tests m x y =
    eqb (group m (face m (turn m x)) (turn m y)) (group m (face m x) y)
    ∷ eqb (coded m (face m x) (group m (face m x) y)) y
    ∷ ltb (group m (face m x) y) (2 ^ width m)
    ∷ eqb (face m (turns m (steps_to m x y) x)) (face m y) ∷ []

group_tests : ℕ → ℕ → ℕ → List Bool
group_tests m x g = is_state m (coded m (face m x) g) ∷ eqb (group m (face m x) (coded m (face m x) g)) g ∷ []

pairs_test : ℕ → ℕ → Bool
pairs_test m x = every (λ y. all (pair_tests m x y)) (states m)

groups_test : ℕ → ℕ → Bool
groups_test m x = every (λ g. all (group_tests m x g)) (below (2 ^ width m))

tests : (m : ℕ) → T (is_mode m) → T (every (λ x. pairs_test m x && groups_test m x) (states m))
unfolding pairs_test groups_test group_tests pair_tests steps_to row_from entry width states is_state quadrant next_quadrant step turn whole_steps face changes4 changes8 changes16 coded eighths turn_row group
tests = mode_cases (λ m. T (every (λ x. pairs_test m x && groups_test m x) (states m))) tt tt tt tt tt tt

both : (m x : ℕ) → T (is_mode m) → T (is_state m x) → T (pairs_test m x && groups_test m x)
both m x hm hx = state_at_lem m (λ z. pairs_test m z && groups_test m z) (tests m hm) x hx

pub of_pair : EachPair
unfolding pairs_test pair_tests
of_pair m x hm hx y hy =
    let t : T (all (pair_tests m x y)) = state_at_lem m (λ z. all (pair_tests m x z)) (and_left (pairs_test m x) (groups_test m x) (both m x hm hx)) y hy in
    let at : (i : ℕ) → T (get_or (pair_tests m x y) i true) = λ i. test_at (pair_tests m x y) i t in
    record { same = eqb→eq _ _ (at 0); back = eqb→eq _ _ (at 1); fits = ltb→lt _ _ (at 2); meets = (steps_to m x y, sym (eqb→eq _ _ (at 3))) }

pub of_group : EachGroup
unfolding groups_test group_tests
of_group m x hm hx g hg =
    let t : T (all (group_tests m x g)) = below_at (λ z. all (group_tests m x z)) (2 ^ width m) (and_right (pairs_test m x) (groups_test m x) (both m x hm hx)) g hg in
    let at : (i : ℕ) → T (get_or (group_tests m x g) i true) = λ i. test_at (group_tests m x g) i t in
    record { lands = at 0; read = eqb→eq _ _ (at 1) }

-- the rows of 001's table 1
pub table_turns : TableTurns
unfolding changes16 next_quadrant turns_of
table_turns q y hq hy =
    eqb→eq _ _ (pairs_below (λ i j. eqb (get_or changes16 (4 * i + j) 0) (quarter_turns (get_or turns_of i 0) j)) 4 4 tt q y hq hy)

-- and their rule, both ways
rule_tests : ℕ → ℕ → List Bool
rule_tests a b =
    eqb (place ((turns_for a + place b) % 4)) (entry changes16 (4 * a + b)) ∷ eqb (turns_for ((place b + 4 - place a) % 4)) (turn_row a b) ∷ []

pub by_rule : TableByRule
unfolding rule_tests place turns_for entry changes16 row_from turn_row
by_rule a b ha hb =
    let at : (i : ℕ) → T (get_or (rule_tests a b) i true) = λ i. test_at (rule_tests a b) i (pairs_below (λ i j. all (rule_tests i j)) 4 4 tt a b ha hb) in
    record { turned = eqb→eq _ _ (at 0); found = eqb→eq _ _ (at 1) }
