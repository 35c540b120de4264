-- A point off the origin as turns of 90° of one with re > 0 and im ≥ 0, and what it is decided as: the way from `decide` to the rings of
-- specs/Sizes. Assumes nothing.
use Prim.Native.Nat.{ℕ, ◌+◌, ◌*◌, ◌%◌}
use mathlib.Core.Bool.{cond}
use mathlib.Core.List.{List, [], ◌∷◌}
use lib.Dec.{eqb, ltb, leb}
use lib.ListN.{get_or}
use Rattle.deciding.specs.Sizes.{sq}
use Rattle.line.specs.Mode.{by_mode}

-- k turns of 90° of a point with re = along > 0 and im = across ≥ 0
pub record Arc : Type 0 where
  pub quarters : ℕ
  pub along : ℕ
  pub across : ℕ

abbrev pub arc : ℕ → ℕ → ℕ → Arc
arc k a b = record { quarters = k; along = a; across = b }

-- past the direction that ends a quarter's states: 45° in mode 1, two levels up for one across in mode 3
unfoldable pub state1 : Arc → ℕ
state1 t = (t.quarters + cond (leb t.across t.along) 0 1) % 4 * 2

-- C, D, A, B
unfoldable pub ring3 : List ℕ
ring3 = 13 ∷ 9 ∷ 1 ∷ 5 ∷ []

unfoldable pub state3 : Arc → ℕ
state3 t = get_or ring3 ((t.quarters + cond (leb t.across (2 * t.along)) 0 1) % 4) 0

-- nearer the axis along, nearer the one across, or between them
unfoldable pub state2 : Arc → ℕ
state2 t =
    cond (ltb (sq (t.along + t.across)) (2 * sq t.along)) (t.quarters * 2)
    (cond (ltb (sq (t.along + t.across)) (2 * sq t.across)) ((t.quarters * 2 + 2) % 8) (t.quarters * 2 + 1))

-- the quadrants I to IV, each by its levels
unfoldable pub ring4 : List ℕ
ring4 = 12 ∷ 13 ∷ 14 ∷ 15 ∷ 8 ∷ 9 ∷ 10 ∷ 11 ∷ 0 ∷ 1 ∷ 2 ∷ 3 ∷ 4 ∷ 5 ∷ 6 ∷ 7 ∷ []

unfoldable pub outer_size : ℕ → ℕ
outer_size x = cond (leb 2048 x) 1 0

-- a point on the axis before a quarter belongs to the quadrant before it
unfoldable pub state4 : Arc → ℕ
state4 t =
    cond (eqb t.across 0)
    (get_or ring4 ((t.quarters + 3) % 4 * 4 + outer_size t.along * 2) 0)
    (get_or ring4 (t.quarters * 4 + outer_size t.across * 2 + outer_size t.along) 0)

unfoldable pub state_arc : ℕ → Arc → ℕ
state_arc m t = by_mode m (state1 t) (state2 t) (state3 t) (state4 t)
