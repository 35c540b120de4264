-- What `decide` tells in document 01's and 02's terms, and what holds of it: the statements, whose proofs are in proofs/DecideLaws,
-- proofs/OneRegion, proofs/SectorLaws, proofs/DistanceLaws and proofs/RangeLaws.
use Rattle.std.specs.Prelude.{ℕ, ◌<◌, ◌≤◌, ◌≡◌, false, cond, List, [], ◌∷◌, map, ◌↔◌, T, eqb, pos, Option, Some, None}
use Rattle.line.specs.declared.Point.{Point}
use Rattle.deciding.specs.declared.Decided.{Decided}
use Rattle.line.specs.Mode.{is_mode, is_state, turns, quarter_steps}
use Rattle.line.specs.Point.{at, in_range, is_origin, turned, sent_point}
use Rattle.deciding.specs.Decide.{State, turned_answer, decide}
use Rattle.deciding.specs.Regions.{in_sector, in_region}
use Rattle.deciding.specs.Distance.{distance, decision}

-- "where an answer is an enum, a definition gives this paper's number and values for each of the enum's cases"

-- the state, if the point is one
abbrev pub states_of : Option Decided → List ℕ
states_of (Some d) = d.state ∷ []
states_of None = []

-- the squared distance to its sent point, in units
abbrev pub distances_of : Option Decided → List ℕ
distances_of (Some d) = d.distance.0 ∷ []
distances_of None = []

-- the intervals that are lost: the origin is a gap of one
abbrev pub lost_of : Option Decided → ℕ
lost_of (Some d) = 0
lost_of None = 1

pub record Told (m : ℕ) (p : Point) (r : Option Decided) : Type 0 where
  pub state_is : states_of r ≡ states_of (decision m p)
  pub distance_is : distances_of r ≡ map (λ (s : ℕ). distance m s p) (states_of r)
  pub lost_is : lost_of r ≡ cond (is_origin p) 1 0

-- Document 02, R-5: "every mode 2 point within range and off the origin falls into a sector, and into only one." It is so of every point
-- off the origin, and that sector's state is the one it is decided as.
abbrev pub InOneSector : Type 0
InOneSector =
    (p : Point) → is_origin p ≡ false → (k : ℕ) × (k < 8) × (decide 2 p ≡ State k) × ((i : ℕ) → i < 8 → in_sector i p ≡ eqb i k)

-- the same in every mode: each point off the origin lies in the region of one state, in no other's, and is decided as that state
abbrev pub InOneRegion : Type 0
InOneRegion =
    (m : ℕ) (p : Point) → T (is_mode m) → is_origin p ≡ false
    → (s : ℕ) × T (is_state m s) × (decide m p ≡ State s) × ((x : ℕ) → T (is_state m x) → in_region m x p ≡ eqb x s)

-- How near points within range come to an edge: at (13860, 5741) the squares are 384,199,201 and 2 times 192,099,600, one apart, at
-- (5741, 2378) 65,918,161 and 2 times 32,959,081.
pub record NextToEdge : Type 0 where
  pub past_edge : T (in_sector 1 (at (pos 13860) (pos 5741)))
  pub before_edge : T (in_sector 0 (at (pos 5741) (pos 2378)))

-- a decided state is one of the mode
abbrev pub DecidedState : Type 0
DecidedState = (m : ℕ) (p : Point) (s : ℕ) → T (is_mode m) → decide m p ≡ State s → T (is_state m s)

-- a sent point is decided as its state
abbrev pub DecidedSent : Type 0
DecidedSent = (m s : ℕ) → T (is_mode m) → T (is_state m s) → decide m (sent_point m s) ≡ State s

-- a point turned by 90° is decided as the answer turned by 90°
abbrev pub TurnDecides : Type 0
TurnDecides = (m : ℕ) (p : Point) → T (is_mode m) → decide m (turned p) ≡ turned_answer m 1 (decide m p)

-- THE DISTANCE

-- it is 0 at the state's sent point, and nowhere else
abbrev pub NoneAtSent : Type 0
NoneAtSent = (m s : ℕ) (p : Point) → (distance m s p ≡ 0 ↔ p ≡ sent_point m s)

-- turning point and state by 90° keeps it
abbrev pub TurnKeeps : Type 0
TurnKeeps = (m s : ℕ) (p : Point) → T (is_mode m) → T (is_state m s) → distance m (turns m (quarter_steps m) s) (turned p) ≡ distance m s p

-- within range that of the decided state is at most 419,430,400, which a corner of the range has in mode 1
pub record MostDistance : Type 0 where
  pub at_most : (m : ℕ) (p : Point) (s : ℕ) → T (is_mode m) → T (in_range p) → decide m p ≡ State s → distance m s p ≤ 419430400
  pub reached : (decide 1 (at (pos 16384) (pos 16384)) ≡ State 0) × (distance 1 0 (at (pos 16384) (pos 16384)) ≡ 419430400)

-- it is no minimum: in mode 2 the point (1, 0) is decided 0, and the sent point of state 1 is nearer
pub record NoMinimum : Type 0 where
  pub decided : decide 2 (at (pos 1) (pos 0)) ≡ State 0
  pub to_decided : distance 2 0 (at (pos 1) (pos 0)) ≡ 16769025
  pub to_another : distance 2 1 (at (pos 1) (pos 0)) ≡ 16767841
