-- Document 01, "Deciding a point", over whole numbers.
use Rattle.std.specs.Prelude.{ℕ, ◌+◌, ◌*◌, ◌-◌, ◌%◌, Bool, ◌&&◌, cond, leb, ℤ, pos, neg_ℤ, nat_abs, ◌+ℤ◌, ◌-ℤ◌, ◌*ℤ◌}
use Rattle.std.specs.Int.Signed.{lt_z, le_z}
use Rattle.line.specs.declared.Point.{Point}
use Rattle.line.specs.Mode.{by_mode, turns, quarter_steps}
use Rattle.line.specs.Point.{is_origin, turned_by}

-- where a point lies: in the region of a state, or at the origin
pub data Region : Type 0 where
  State : ℕ → Region
  Origin : Region

-- more than -45° and at most +45° from a direction: x along it, y across it
abbrev pub within45 : ℤ → ℤ → Bool
within45 x y = lt_z (neg_ℤ x) y && le_z y x

-- The region whose points are decided as they stand; the others are its turns.
-- Mode 1: about state 0. Mode 2: im ≥ 0 and re > 0. Mode 3: about C, with p = 3·re + im and q = 3·im - re. Mode 4: quadrant I.
unfoldable pub in_first : ℕ → Point → Bool
in_first m z =
    let p : ℤ = pos 3 *ℤ z.re +ℤ z.im in
    let q : ℤ = pos 3 *ℤ z.im -ℤ z.re in
    by_mode m (within45 z.re z.im) (le_z (pos 0) z.im && lt_z (pos 0) z.re) (within45 p q)
    (le_z (pos 0) z.re && lt_z (pos 0) z.im)

abbrev pub square : ℤ → ℤ
square x = x *ℤ x

-- Mode 2, im ≥ 0 and re > 0: nearer 0° than 45° when (re + im)² < 2·re², nearer 90° when (re + im)² < 2·im², and else nearest 45°
unfoldable pub sector : Point → ℕ
sector z =
    let s : ℤ = square (z.re +ℤ z.im) in
    cond (lt_z s (pos 2 *ℤ square z.re)) 0 (cond (lt_z s (pos 2 *ℤ square z.im)) 2 1)

-- Mode 4: a coordinate of size 2048 or more is level 3, below it level 1. In quadrant I the states are
-- 1100 at (1, 1), 1101 at (3, 1), 1110 at (1, 3), 1111 at (3, 3).
unfoldable pub outer : ℤ → ℕ
outer x = cond (leb 2048 (nat_abs x)) 1 0

-- the state of a point of the first region
unfoldable pub first : ℕ → Point → ℕ
first m z = by_mode m 0 (sector z) 13 (12 + outer z.re + 2 * outer z.im)

-- how many turns of 90° lead from the first region to the point
unfoldable pub quarters : ℕ → Point → ℕ
quarters m z = cond (in_first m z) 0 (cond (in_first m (turned_by 3 z)) 1 (cond (in_first m (turned_by 2 z)) 2 3))

-- a state turned by k turns of 90°
abbrev pub turned_state : ℕ → ℕ → ℕ → ℕ
turned_state m k s = turns m (k * quarter_steps m) s

-- the point is turned back into the first region, and its state turned forth
abbrev pub decide_by : ℕ → ℕ → Point → ℕ
decide_by m k z = turned_state m k (first m (turned_by ((4 - k) % 4) z))

-- the origin is no state
unfoldable pub decide : ℕ → Point → Region
decide m z = cond (is_origin z) Origin (State (decide_by m (quarters m z) z))

-- an answer turned by k turns of 90°
unfoldable pub turned_answer : ℕ → ℕ → Region → Region
turned_answer m k (State s) = State (turned_state m k s)
turned_answer m k Origin = Origin

-- the state that a point is decided as; of the origin 0, which is not asked for
abbrev pub state_in : Region → ℕ
state_in (State y) = y
state_in Origin = 0
