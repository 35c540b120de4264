-- Document 02, R-1: "Deciding a point shall give, beside the state, the squared distance in units from the received point to that
-- state's sent point, a whole number." A unit is 1/1024 of a level, as in a point's coordinates.
use Rattle.std.specs.Prelude.{ℕ, ◌+◌, ◌*◌, ℤ, nat_abs, ◌-ℤ◌, Option, Some, None}
use Rattle.line.specs.declared.Point.{Point}
use Rattle.line.specs.Point.{sent_point}
use Rattle.deciding.specs.declared.Decided.{Decided}
use Rattle.deciding.specs.Decide.{Region, State, Origin, decide}

-- how far apart two coordinates are
abbrev pub apart : ℤ → ℤ → ℕ
apart x y = nat_abs (x -ℤ y)

-- the squared distance of two points
unfoldable pub squared_distance : Point → Point → ℕ
squared_distance p q = apart p.re q.re * apart p.re q.re + apart p.im q.im * apart p.im q.im

-- that from a point to the sent point of a state
unfoldable pub distance : ℕ → ℕ → Point → ℕ
distance m s z = squared_distance z (sent_point m s)

-- what deciding gives: the state with its distance; the origin has none
abbrev pub measured : ℕ → Point → Region → Option Decided
measured m z (State s) = Some (record { state = s; distance = record { 0 = distance m s z } })
measured m z Origin = None

unfoldable pub decision : ℕ → Point → Option Decided
decision m z = measured m z (decide m z)
