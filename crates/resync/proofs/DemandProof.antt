-- Demand 3 holds: of lists of single events, so of any calls that stand for such; and the statement of single events follows. Assumes nothing.
use Prim.Native.Nat.{ℕ}
use mathlib.Core.Path.{◌≡◌, refl, sym, ◌∙◌, ap, subst, subst₂}
use mathlib.Core.List.{List, [], ◌∷◌, ◌++◌, map}
use mathlib.Core.Logic.{⊎_elim}
use Rattle.receiver.specs.declared.Receiver.{Receiver}
use lib.ListN.{length, drop}
use Rattle.receiver.specs.Receiver.{Event, next}
use Rattle.line.specs.Table.{All}
use Rattle.receiver.specs.Calls.{after, Heard, heard, events, IsPoint, row}
use Rattle.receiver.proofs.CallLaws.{same_after, heard_append}
use Rattle.receiver.proofs.ShapeLaws.{Shape, shape}
use Rattle.resync.specs.CallLists.{Call, single, after_calls, heard_calls, singles}
use Rattle.scrambler.specs.Scramble.{settled}
use Rattle.resync.specs.Assured.{unassured}
use Rattle.resync.specs.DataPoints.{given_from}
use Rattle.resync.specs.Demand.{Vouched, Demand3, FromThePoint, ByPoints, OfPointsAndGaps, Follows}
use Rattle.resync.proofs.CallLists.{one_by_one}
use Rattle.resync.proofs.ReceivedLaws.{lines_iff, turned_data, data_settled, from_point}
use Rattle.resync.proofs.HandedLaws.{handed_as_written, sender_data, given_from_point}

-- a list of accepted points, after any list before it
received : (s : Receiver) (before list : List Event) → All IsPoint (heard (after s before) list) → Shape s.mode s.role (heard (after s before) list)
received s before list p =
    let q = same_after s before in
    subst₂ (λ (m r : ℕ). Shape m r (heard (after s before) list)) q.0 q.1 (shape (after s before) list p)

of_events : OfPointsAndGaps
of_events a b beforeA beforeB list_a list_b em er pA pB l =
    let m : ℕ = a.mode in
    let role : ℕ = a.role in
    let A : List Heard = heard (after a beforeA) list_a in
    let B : List Heard = heard (after b beforeB) list_b in
    let j : Shape m role A = received a beforeA list_a pA in
    let k : Shape m role B = subst₂ (λ (n r : ℕ). Shape n r B) (sym em) (sym er) (received b beforeB list_b pB) in
    record {
      exactly = lines_iff m role A B j k l;
      are_settled = λ t. data_settled m role A j;
      are_equal = λ t. turned_data m role A B j k l t;
      are_given = λ t ds c h.
          let e = turned_data m role A B j k l t in
          let g = ap (λ (ls : List (List ℕ)). map settled (drop (unassured m (row ls)) (given_from 2 ds))) ((lines_iff m role A B j k l).1 t) in
          ⊎_elim
          (λ p. let d = sender_data m role A ds j c (handed_as_written ds (events A) p) in (d, sym e ∙ d ∙ g))
          (λ p. let d = sender_data m role B ds k c (handed_as_written ds (events B) p) in (e ∙ d ∙ sym g, d)) h;
    }

-- after any list of calls
heard-singles : (s : Receiver) (before list : List Call) → heard_calls (after_calls s before) list ≡ heard (after s (singles s before)) (singles (after_calls s before) list)
heard-singles s before list =
    (one_by_one (after_calls s before) list).1 ∙ ap (λ (t : Receiver). heard t (singles (after_calls s before) list)) (one_by_one s before).0

pub demand3 : Demand3
demand3 a b beforeA beforeB list_a list_b em er pA pB l =
    let j = heard-singles a beforeA list_a in
    let k = heard-singles b beforeB list_b in
    subst₂ (λ (A B : List Heard). Vouched a.mode a.role A B) (sym j) (sym k)
    (of_events a b (singles a beforeA) (singles b beforeB) (singles (after_calls a beforeA) list_a) (singles (after_calls b beforeB) list_b) em er
    (subst (All IsPoint) j pA) (subst (All IsPoint) k pB) (sym (ap length j) ∙ l ∙ ap length k))

-- without the guard: the points before the assured one
pub by_points : ByPoints
by_points a before list g p =
    let j = heard-singles a before list in
    let A : List Heard = heard (after a (singles a before)) (singles (after_calls a before) list) in
    let k : Shape a.mode a.role A = received a (singles a before) (singles (after_calls a before) list) (subst (All IsPoint) j p) in
    subst (FromThePoint a.mode) (sym j)
    (record { data_are = from_point a.mode a.role A k g; given_are = λ role ds c. given_from_point a.mode role ds _ c g })

-- a list of single events as calls
after_single : (s : Receiver) (es : List Event) → after_calls s (map single es) ≡ after s es
after_single s [] = refl
after_single s (e ∷ es) = after_single (next s e) es

heard_single : (s : Receiver) (es : List Event) → heard_calls s (map single es) ≡ heard s es
heard_single s [] = refl
heard_single s (e ∷ es) = ap (λ (xs : List Heard). heard s (e ∷ []) ++ xs) (heard_single (next s e) es) ∙ sym (heard_append s (e ∷ []) es)

pub follows : Follows
follows d a b beforeA beforeB list_a list_b em er pA pB l =
    let j = same a beforeA list_a in
    let k = same b beforeB list_b in
    subst₂ (λ (A B : List Heard). Vouched a.mode a.role A B) j k
    (d a b (map single beforeA) (map single beforeB) (map single list_a) (map single list_b) em er
    (subst (All IsPoint) (sym j) pA) (subst (All IsPoint) (sym k) pB) (ap length j ∙ l ∙ sym (ap length k)))
  where
    same : (s : Receiver) (before list : List Event) → heard_calls (after_calls s (map single before)) (map single list) ≡ heard (after s before) list
    same s before list = heard_single (after_calls s (map single before)) list ∙ ap (λ (t : Receiver). heard t list) (after_single s before)
