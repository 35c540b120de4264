-- How the code decides a point: four tests on the signs and the sizes of its coordinates, summed to an index into the mode's ring of 16
-- states. Nobody need believe this file: the law `by_ring` of proofs/RingLaws says that it is `decide`.
use Rattle.std.specs.Prelude.{ℕ, ◌+◌, ◌*◌, Bool, true, false, not, cond, List, [], ◌∷◌, ltb, leb, ℤ, pos, nat_abs}
use Rattle.std.specs.Int.Signed.{lt_z}
use Rattle.line.specs.Mode.{by_mode}

abbrev pub bit_of : Bool → ℕ
bit_of t = cond t 1 0

-- below 0, or below 1
unfoldable pub below_of : ℤ → Bool → Bool
below_of x one = lt_z x (pos (bit_of one))

-- where the quadrants I to IV begin in the ring: at 0, 4, 12, 8. Each has the axis that ends it: I has (0, 1) and not (1, 0).
unfoldable pub quadrant_of : ℤ → ℤ → ℕ
quadrant_of re im = 8 * bit_of (below_of im (not (below_of re true))) + 4 * bit_of (below_of re (below_of im false))

abbrev pub sq : ℕ → ℕ
sq x = x * x

-- the size y is the larger: past 45° in mode 1, nearer to the axis than to 45° in mode 2, past (1, 2) in mode 3, level 3 in mode 4
unfoldable pub far_of : ℕ → ℕ → ℕ → Bool
far_of m x y = by_mode m (ltb x y) (ltb (sq (x + y)) (2 * sq y)) (ltb (2 * x) y) (leb 2048 y)

-- the states of the quadrants I, II, IV and III, in each where no size is far, im's, re's, both
unfoldable pub ring_of : ℕ → List ℕ
ring_of m =
    by_mode m (0 ∷ 2 ∷ 0 ∷ 2 ∷ 2 ∷ 2 ∷ 4 ∷ 4 ∷ 6 ∷ 6 ∷ 0 ∷ 0 ∷ 4 ∷ 6 ∷ 4 ∷ 6 ∷ [])
    (1 ∷ 2 ∷ 0 ∷ 0 ∷ 3 ∷ 2 ∷ 4 ∷ 2 ∷ 7 ∷ 6 ∷ 0 ∷ 6 ∷ 5 ∷ 6 ∷ 4 ∷ 4 ∷ [])
    (13 ∷ 9 ∷ 13 ∷ 9 ∷ 9 ∷ 9 ∷ 1 ∷ 1 ∷ 5 ∷ 5 ∷ 13 ∷ 13 ∷ 1 ∷ 5 ∷ 1 ∷ 5 ∷ [])
    (12 ∷ 14 ∷ 13 ∷ 15 ∷ 8 ∷ 9 ∷ 10 ∷ 11 ∷ 4 ∷ 5 ∷ 6 ∷ 7 ∷ 0 ∷ 2 ∷ 1 ∷ 3 ∷ [])

-- where in the ring a point off the origin finds its state
unfoldable pub ring_index : ℕ → ℤ → ℤ → ℕ
ring_index m re im = quadrant_of re im + (2 * bit_of (far_of m (nat_abs im) (nat_abs re)) + bit_of (far_of m (nat_abs re) (nat_abs im)))
