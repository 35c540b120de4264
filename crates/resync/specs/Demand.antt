-- Demand 3: "ONE theorem over whole lists of calls, not one per call. It stays whole through every request." Its other sentences stand
-- beside the clauses.
use Rattle.std.specs.Prelude.{ℕ, ◌≡◌, false, List, map, ◌↔◌, ◌⊎◌, length, drop}
use Rattle.line.specs.Mode.{guarded}
use Rattle.scrambler.specs.Scramble.{settled}
use Rattle.receiver.specs.declared.Receiver.{Receiver}
use Rattle.receiver.specs.Receiver.{Event}
use Rattle.line.specs.Table.{All}
use Rattle.receiver.specs.Calls.{after, Heard, heard, events, IsPoint, decided_states, lines_from2, row}
use Rattle.receiver.specs.Turn.{Turned}
use Rattle.sender.specs.Calls.{DataPoint}
use Rattle.resync.specs.CallLists.{Call, after_calls, heard_calls}
use Rattle.resync.specs.Assured.{assured_point, unassured, data_from, assured_data, AllSettled}
use Rattle.resync.specs.DataPoints.{Consecutive, Handed, given_from}

-- what is vouched for of two lists A and B of accepted points, of one mode and role: of their bits. An answer's distance is not read
-- (document 02, R-1: "The comparison of two receivers in the third demand is about bits and leaves the distance aside.").
pub record Vouched (m role : ℕ) (A B : List Heard) : Type 0 where
  -- "The line bits from the second point on are equal EXACTLY when the decided states of one list are those of the other, all turned by
  -- one whole number of the mode's steps (mode 4: the first point by its quadrant only)."
  pub exactly : lines_from2 A ≡ lines_from2 B ↔ Turned m (decided_states m A) (decided_states m B)
  -- "If so, all data bits from point 6 (mode 1), 5 (mode 2), 14 (mode 3), 8 (mode 4) are settled and equal.", in modes 5 and 6 from where
  -- R-6 says. Being equal, those of B are settled too.
  pub are_settled : Turned m (decided_states m A) (decided_states m B) → AllSettled (assured_data m A)
  pub are_equal : Turned m (decided_states m A) (decided_states m B) → assured_data m A ≡ assured_data m B
  -- "If, besides, one list is consecutive data points of a sender of that mode and role, whatever it sent before, direct or read back from
  -- a store, those data bits of both receivers are the ones the sender was given."
  pub are_given :
      Turned m (decided_states m A) (decided_states m B) → (ds : List DataPoint) → Consecutive m role ds
      → Handed ds (events A) ⊎ Handed ds (events B)
      → (assured_data m A ≡ map settled (drop (unassured m (row (lines_from2 A))) (given_from 2 ds)))
      × (assured_data m B ≡ map settled (drop (unassured m (row (lines_from2 B))) (given_from 2 ds)))

-- "Two receivers of one mode and role, whatever each took before; each then takes a list of points and gaps in which it accepts no gap
-- and no origin point, equally many points. Refused calls may stand anywhere, uncounted." A list starts from what the one before left;
-- `heard_calls` are its accepted calls. R-3: "a list of float points alone comes under the third demand once rounded, if none of it rounds
-- to the origin": each of the lists may be of points in units, of points in levels, or mixed, one by one or many by one call.
abbrev pub Demand3 : Type 0
Demand3 =
    (a b : Receiver) (beforeA beforeB list_a list_b : List Call) → a.mode ≡ b.mode → a.role ≡ b.role
    → All IsPoint (heard_calls (after_calls a beforeA) list_a) → All IsPoint (heard_calls (after_calls b beforeB) list_b)
    → length (heard_calls (after_calls a beforeA) list_a) ≡ length (heard_calls (after_calls b beforeB) list_b)
    → Vouched a.mode a.role (heard_calls (after_calls a beforeA) list_a) (heard_calls (after_calls b beforeB) list_b)

-- IN MODES 1 TO 4 the bits that are not assured are those of the points before point 6, 5, 14, 8: the assured ones are all from there on,
-- and so are the ones that the sender was given
pub record FromThePoint (m : ℕ) (A : List Heard) : Type 0 where
  pub data_are : assured_data m A ≡ data_from (assured_point m) A
  pub given_are :
      (role : ℕ) (ds : List DataPoint) → Consecutive m role ds → drop (unassured m (row (lines_from2 A))) (given_from 2 ds) ≡ given_from (assured_point m) ds

abbrev pub ByPoints : Type 0
ByPoints =
    (a : Receiver) (before list : List Call) → guarded a.mode ≡ false → All IsPoint (heard_calls (after_calls a before) list)
    → FromThePoint a.mode (heard_calls (after_calls a before) list)

-- demand 3 for lists of points in units and gaps alone, as it was stated before there were other calls; it follows
abbrev pub OfPointsAndGaps : Type 0
OfPointsAndGaps =
    (a b : Receiver) (beforeA beforeB list_a list_b : List Event) → a.mode ≡ b.mode → a.role ≡ b.role
    → All IsPoint (heard (after a beforeA) list_a) → All IsPoint (heard (after b beforeB) list_b)
    → length (heard (after a beforeA) list_a) ≡ length (heard (after b beforeB) list_b)
    → Vouched a.mode a.role (heard (after a beforeA) list_a) (heard (after b beforeB) list_b)

abbrev pub Follows : Type 0
Follows = Demand3 → OfPointsAndGaps
