-- What a list gives whose accepted calls are points off the origin, whatever the state at its start. Assumes nothing.
use Prim.Native.Nat.{ℕ, zero, suc, ◌+◌}
use mathlib.Core.Path.{◌≡◌, refl, sym, ◌∙◌, ap, subst}
use mathlib.Core.Bool.{Bool, true, false, not}
use mathlib.Core.List.{List, [], ◌∷◌, ◌++◌, map}
use lib.Dec.{T}
use lib.ListN.{length}
use Rattle.coding.specs.Code.{group}
use Rattle.line.specs.Table.{every}
use Rattle.line.specs.declared.Point.{Point}
use Rattle.line.specs.Mode.{is_mode, is_state, width, face}
use Rattle.line.specs.Point.{is_origin}
use Rattle.deciding.specs.Decide.{Region, State, Origin, decide}
use Rattle.deciding.specs.Distance.{distance}
use Rattle.line.specs.Refusal.{accepted}
use Rattle.line.proofs.TableLaws.{and_intro}
use Rattle.scrambler.specs.declared.Register.{Register}
use Rattle.scrambler.specs.Register.{pushes}
use Rattle.scrambler.specs.Scramble.{Datum, descramble}
use Rattle.scrambler.proofs.BitLaws.{length-bits}
use Rattle.scrambler.proofs.GroupLaws.{descramble_append, length-descramble}
use Rattle.scrambler.proofs.RegisterLaws.{Ok}
use Rattle.std.specs.Prelude.{Some as some}
use Rattle.receiver.specs.declared.Receiver.{Receiver}
use Rattle.receiver.specs.Receiver.{receiver, Event, point, gap, refusal, refused, decoded, line_bits, state_answer, point_answer, event_answer, answer, state_line, state_next, point_next, event_next, next}
use Rattle.line.specs.Table.{All}
use Rattle.receiver.specs.Calls.{Heard, heard, IsPoint, decided_as, data_of, decided_states, lines_heard, row, data_heard}
use Rattle.receiver.specs.Turn.{lines}
use Rattle.deciding.proofs.DecideLaws.{Off}
use Rattle.receiver.proofs.CallLaws.{Valid, accepted_valid, accepted-off, line-register}

-- the state that an accepted point off the origin is decided as
pub record Decided (m : ℕ) (p : Point) : Type 0 where
  pub state : ℕ
  pub is : decide m p ≡ State state
  pub of_mode : T (is_state m state)

pub decided : (s : Receiver) (p : Point) → refusal s (point p) ≡ 0 → T (not (is_origin p)) → Decided s.mode p
decided s p z t = go (decide s.mode p) refl (accepted-off s p z (not_so (is_origin p) t))
  where
    not_so : (b : Bool) → T (not b) → b ≡ false
    not_so true t = absurd t
    not_so false t = refl

    go : (d : Region) → decide s.mode p ≡ d → Off s.mode d → Decided s.mode p
    go (State y) e h = record { state = y; is = e; of_mode = h }
    go Origin e h = absurd h

-- what points heard after a reference x, with the register h, say
pub record Follows (m role x : ℕ) (h : Register) (xs : List Heard) : Type 0 where
  pub states : T (every (is_state m) (decided_states m xs))
  pub sized : All (λ (g : List Datum). length g ≡ width m) (map (λ (y : Heard). data_of y.answered) xs)
  pub lines_are : lines_heard xs ≡ lines m x (decided_states m xs)
  pub data_are : data_heard xs ≡ descramble m role h (row (lines m x (decided_states m xs)))

module _ (m role : ℕ) where
  heard_at : ℕ → Register → Point → ℕ → Heard
  heard_at x h p y = record { event = point p; answered = decoded (line_bits m x y) (descramble m role h (line_bits m x y)) (distance m y p) }

  follows_cons : (x : ℕ) (h : Register) (p : Point) (xs : List Heard) (d : Decided m p)
      → Follows m role d.state (pushes m h (line_bits m x d.state)) xs → Follows m role x h (heard_at x h p d.state ∷ xs)
  unfolding heard_at
  follows_cons x h p xs d f =
      let y : ℕ = d.state in
      record {
        states = rw d.is (and_intro (is_state m y) (every (is_state m) (decided_states m xs)) d.of_mode f.states);
        sized = (length-descramble m role h (line_bits m x y) ∙ length-bits (width m) (group m (face m x) y), f.sized);
        lines_are = rw d.is (ap (λ (l : List (List ℕ)). line_bits m x y ∷ l) f.lines_are);
        data_are = rw d.is (ap (λ (l : List Datum). descramble m role h (line_bits m x y) ++ l) f.data_are
            ∙ sym (descramble_append m role h (line_bits m x y) (row (lines m y (decided_states m xs)))));
      }

-- the accepted calls of a list by the refusal of its first call, 0 for none
abbrev heard_by : ℕ → Receiver → Event → List Event → List Heard
heard_by n s e es =
    accepted n (record { event = e; answered = accepted n (event_answer s e) (refused n) } ∷ heard (accepted n (event_next s e) s) es)
    (heard (accepted n (event_next s e) s) es)

heard_by_lem : (s : Receiver) (e : Event) (es : List Event) → heard s (e ∷ es) ≡ heard_by (refusal s e) s e es
unfolding answer next
heard_by_lem s e es = refl

-- an accepted point decided as a state: its answer, and the calls after it
heard_point : (s : Receiver) (p : Point) (es : List Event) (d : Decided s.mode p)
    → heard_by 0 s (point p) es
    ≡ record { event = point p; answered = state_answer s s.reference d.state (distance s.mode d.state p) } ∷ heard (state_next s s.reference d.state) es
unfolding event_answer event_next point_answer point_next
heard_point s p es d =
    ap (λ (t : Region). record { event = point p; answered = point_answer s p t } ∷ heard (point_next s t) es) d.is

-- points after a reference
abbrev Followed : ℕ → ℕ → List Event → Type 0
Followed m role es =
    (x : ℕ) (h : Register) (place : ℕ) → All IsPoint (heard (receiver m role (some x) h place) es)
    → Follows m role x h (heard (receiver m role (some x) h place) es)

follow_step : (m role x : ℕ) (h : Register) (place : ℕ) (e : Event) (es : List Event) → Followed m role es
    → (n : ℕ) → refusal (receiver m role (some x) h place) e ≡ n → All IsPoint (heard_by n (receiver m role (some x) h place) e es)
    → Follows m role x h (heard_by n (receiver m role (some x) h place) e es)
unfolding state_answer state_next state_line heard_at
follow_step m role x h place (point p) es ih zero z a =
    let s : Receiver = receiver m role (some x) h place in
    let d : Decided m p = decided s p z a.0 in
    let q = heard_point s p es d in
    let b = subst (All IsPoint) q a in
    subst (Follows m role x h) (sym q) (follows_cons m role x h p _ d (ih d.state _ (place + 1) b.1))
follow_step m role x h place (gap n) es ih zero z a = absurd a.0
follow_step m role x h place (point p) es ih (suc n) z a = ih x h place a
follow_step m role x h place (gap k) es ih (suc n) z a = ih x h place a

pub follow : (m role : ℕ) (es : List Event) → Followed m role es
follow m role [] x h place a = record { states = tt; sized = tt; lines_are = refl; data_are = refl }
follow m role (e ∷ es) x h place a =
    let s : Receiver = receiver m role (some x) h place in
    let q = heard_by_lem s e es in
    subst (Follows m role x h) (sym q) (follow_step m role x h place e es (follow m role es) (refusal s e) refl (subst (All IsPoint) q a))

-- the first point is a state; the line bits from the second on are those of the decided states, and the data bits those descrambled
-- with a register that meets number 4
abbrev pub Shape : ℕ → ℕ → List Heard → Type 0
Shape m role [] = Unit {0}
Shape m role (x ∷ xs) =
    T (is_mode m) × T (is_state m (decided_as m x.event)) × ((h : Register) × Ok m h × Follows m role (decided_as m x.event) h xs)

shape_step : (s : Receiver) (e : Event) (es : List Event) → (All IsPoint (heard s es) → Shape s.mode s.role (heard s es))
    → (n : ℕ) → refusal s e ≡ n → All IsPoint (heard_by n s e es) → Shape s.mode s.role (heard_by n s e es)
unfolding state_next
shape_step s (point p) es ih zero z a =
    let v : Valid s = accepted_valid s (point p) z in
    let d : Decided s.mode p = decided s p z a.0 in
    let q = heard_point s p es d in
    let b = subst (All IsPoint) q a in
    let y : ℕ = d.state in
    let h : Register = state_line s s.reference y in
    subst (Shape s.mode s.role) (sym q)
    (rw d.is (v.mode, d.of_mode, (h, line-register s s.reference y v.fields, follow s.mode s.role es y h (s.place.0 + 1) b.1)))
shape_step s (gap k) es ih zero z a = absurd a.0
shape_step s (point p) es ih (suc n) z a = ih a
shape_step s (gap k) es ih (suc n) z a = ih a

-- (e) for a list whose accepted calls are points off the origin
pub shape : (s : Receiver) (es : List Event) → All IsPoint (heard s es) → Shape s.mode s.role (heard s es)
shape s [] a = tt
shape s (e ∷ es) a =
    let q = heard_by_lem s e es in
    subst (Shape s.mode s.role) (sym q) (shape_step s e es (shape s es) (refusal s e) refl (subst (All IsPoint) q a))
