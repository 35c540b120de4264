-- Document 01, "Modes, states, turns": points, their turns, and the point sent for a state.
use Rattle.std.specs.Prelude.{ℕ, zero, suc, ◌%◌, ◌≡◌, Bool, ◌&&◌, List, [], ◌∷◌, map, T, eqb, leb, get_or, ℤ, pos, negsuc, neg_ℤ, nat_abs, ◌*ℤ◌}
use Rattle.line.specs.declared.Point.{Point}
use Rattle.line.specs.Table.{every}
use Rattle.line.specs.Mode.{by_mode, is_mode, is_state, turns, quarter_steps}

-- re and im, 1024 to one level
abbrev pub at : ℤ → ℤ → Point
at x y = record { re = x; im = y }

-- a list of numbers is points, re and im in turn; a last number without its partner is no point
abbrev pub pairs : List ℤ → List Point
pairs [] = []
pairs (x ∷ []) = []
pairs (x ∷ y ∷ zs) = at x y ∷ pairs zs

-- a coordinate lies from -16384 to 16384
abbrev pub coordinate_in : ℤ → Bool
coordinate_in x = leb (nat_abs x) 16384

-- each coordinate of a point does
unfoldable pub in_range : Point → Bool
in_range p = coordinate_in p.re && coordinate_in p.im

-- and each of a list
abbrev pub coordinates_in : List ℤ → Bool
coordinates_in zs = every coordinate_in zs

unfoldable pub is_origin : Point → Bool
is_origin p = eqb (nat_abs p.re) 0 && eqb (nat_abs p.im) 0

-- a turn of 90° takes (re, im) to (-im, re)
abbrev pub turned : Point → Point
turned p = at (neg_ℤ p.im) p.re

-- k turns of 90°
abbrev pub turned_by : ℕ → Point → Point
turned_by zero p = p
turned_by (suc k) p = turned (turned_by k p)

-- the points of the V.27 ter states 0 to 7: (4096, 0), (2896, 2896), and so round
unfoldable pub sent27 : List Point
sent27 =
    at (pos 4096) (pos 0) ∷ at (pos 2896) (pos 2896) ∷ at (pos 0) (pos 4096) ∷ at (negsuc 2895) (pos 2896)
    ∷ at (negsuc 4095) (pos 0) ∷ at (negsuc 2895) (negsuc 2895) ∷ at (pos 0) (negsuc 4095) ∷ at (pos 2896) (negsuc 2895) ∷ []

-- 001, table 3: the points of the V.32 states 0000, 0001, .. 1111, in levels
unfoldable pub levels32 : List Point
levels32 =
    let 1+ : ℤ = pos 1 in let 3+ : ℤ = pos 3 in let 1- : ℤ = negsuc 0 in let 3- : ℤ = negsuc 2 in
    at 1- 1- ∷ at 3- 1- ∷ at 1- 3- ∷ at 3- 3- ∷ at 1+ 1- ∷ at 1+ 3- ∷ at 3+ 1- ∷ at 3+ 3-
    ∷ at 1- 1+ ∷ at 1- 3+ ∷ at 3- 1+ ∷ at 3- 3+ ∷ at 1+ 1+ ∷ at 3+ 1+ ∷ at 1+ 3+ ∷ at 3+ 3+ ∷ []

-- the same, 1024 to one level
unfoldable pub sent32 : List Point
sent32 = map (λ (p : Point). at (pos 1024 *ℤ p.re) (pos 1024 *ℤ p.im)) levels32

-- the point sent for a state; a number past the constellation comes round, which no state does
unfoldable pub sent_point : ℕ → ℕ → Point
sent_point m s =
    let v27 : Point = get_or sent27 (s % 8) (at (pos 0) (pos 0)) in
    let v32 : Point = get_or sent32 (s % 16) (at (pos 0) (pos 0)) in
    by_mode m v27 v27 v32 v32

-- "a turn of 90° takes a V.32 state to the one sent at its turned point", and so in every mode: `sent-turned` of proofs/StateLaws
abbrev pub SentTurned : Type 0
SentTurned = (m x : ℕ) → T (is_mode m) → T (is_state m x) → sent_point m (turns m (quarter_steps m) x) ≡ turned (sent_point m x)
