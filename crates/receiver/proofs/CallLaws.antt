-- What holds after every call and every list of calls: numbers 1, 2 and 4 stay met, mode and role stay, a gap forgets, and the place
-- counts the intervals of the accepted calls. Assumes nothing.
use Prim.Native.Nat.{ℕ, zero, suc, ◌+◌, ◌≤◌}
use mathlib.Core.Path.{◌≡◌, refl, ◌∙◌, ap}
use mathlib.Core.Bool.{Bool, true, false, ◌&&◌}
use mathlib.Core.List.{List, [], ◌∷◌, ◌++◌}
use native.Mathlib.Omega.{arith}
use lib.Dec.{T, eqb, eqb→eq}
use lib.Pow.{pow_pos}
use Rattle.line.specs.declared.Point.{Point}
use Rattle.line.specs.Mode.{is_mode, is_role, is_state, width, face}
use Rattle.line.specs.Point.{is_origin}
use Rattle.deciding.specs.Decide.{Region, State, Origin, decide}
use Rattle.coding.specs.Code.{group}
use Rattle.line.specs.Refusal.{accepted}
use Rattle.line.proofs.RefusalLaws.{next-first, state_met, state_free}
use Rattle.line.proofs.TableLaws.{and_left, and_right, and_intro}
use Rattle.scrambler.specs.declared.Register.{Register}
use Rattle.scrambler.specs.Register.{fresh, register_ok}
use Rattle.scrambler.proofs.BitLaws.{bits_are}
use Rattle.scrambler.proofs.RegisterLaws.{Ok, ok, passes, ok_pushes}
use Rattle.receiver.specs.Reference.{Reference}
use Rattle.std.specs.Prelude.{None as none, Some as some}
use Rattle.receiver.specs.declared.Receiver.{Receiver}
use Rattle.line.specs.Refusal.{mode_refusal}
use Rattle.receiver.specs.Receiver.{fresh_receiver, Event, point, gap, is_fresh, fields_ok, state_refusal, refusal, refused, lost, line_bits, state_answer, point_answer, event_answer, answer, intervals, place_after, forgotten, state_line, state_next, point_next, event_next, next}
use Rattle.receiver.specs.Calls.{after, EachAccepted, Heard, heard, events, heard_intervals, decided_as, distances_of}
use Rattle.receiver.specs.Laws.{StatesPass, GapForgets, EachMeasured, PlaceAfter}
use Rattle.deciding.specs.Distance.{distance}
use Rattle.deciding.proofs.DecideLaws.{Off, at_origin, decide-off}
use Rattle.receiver.proofs.OutcomeLaws.{next-placed}

-- NUMBERS 1, 2 AND 4

-- what they ask of a state
pub record Valid (s : Receiver) : Type 0 where
  pub mode : T (is_mode s.mode)
  pub role : T (is_role s.mode s.role)
  pub fields : T (fields_ok s.mode s.reference s.line)

pub valid : (s : Receiver) → state_refusal s ≡ 0 → Valid s
unfolding state_refusal
valid s z = let k = state_met s.mode s.role (fields_ok s.mode s.reference s.line) z in record { mode = k.0; role = k.1; fields = k.2 }

pub no_refusal : (s : Receiver) → Valid s → state_refusal s ≡ 0
unfolding state_refusal
no_refusal s v = state_free s.mode s.role (fields_ok s.mode s.reference s.line) v.mode v.role v.fields

-- an accepted call shows that its state met them
pub accepted_valid : (s : Receiver) (e : Event) → refusal s e ≡ 0 → Valid s
unfolding refusal
accepted_valid s e z = valid s (next-first (state_refusal s) _ z)

-- the register of a state that meets them
pub fields_register : (m : ℕ) (o : Reference) (h : Register) → T (fields_ok m o h) → Ok m h
unfolding fields_ok is_fresh
fields_register m none h t =
    let a : Bool = eqb h.bits 0 && eqb h.held.0 0 in
    let u : T a = and_left a (eqb h.count.0 0) t in
    let y : h.bits ≡ 0 = eqb→eq _ _ (and_left (eqb h.bits 0) (eqb h.held.0 0) u) in
    let z : h.held.0 ≡ 0 = eqb→eq _ _ (and_right (eqb h.bits 0) (eqb h.held.0 0) u) in
    let x : h.count.0 ≡ 0 = eqb→eq _ _ (and_right a (eqb h.count.0 0) t) in
    record { small = omega (arith, pow_pos h.held.0); most = omega arith; counts = zero_at_most h.count.0 _ x }
  where
    zero_at_most : (n k : ℕ) → n ≡ 0 → n ≤ k
    zero_at_most n k e = omega arith
fields_register m (some x) h t = ok m h (and_right (is_state m x) (register_ok m h) t)

-- and after a decided point
pub line-register : (s : Receiver) (o : Reference) (y : ℕ) → T (fields_ok s.mode o s.line) → Ok s.mode (state_line s o y)
unfolding state_line
line-register s none y t = fields_register s.mode none s.line t
line-register s (some x) y t = ok_pushes s.mode s.line (line_bits s.mode x y) (bits_are (width s.mode) (group s.mode (face s.mode x) y)) (fields_register s.mode (some x) s.line t)

-- what a point off the origin is decided as, if it is accepted
pub accepted-off : (s : Receiver) (p : Point) → refusal s (point p) ≡ 0 → is_origin p ≡ false → Off s.mode (decide s.mode p)
accepted-off s p z o = decide-off s.mode (accepted_valid s (point p) z).mode p o

module _ (s : Receiver) (v : Valid s) where
  forgotten_valid : (n : ℕ) → Valid (forgotten s n)
  unfolding forgotten fields_ok is_fresh
  forgotten_valid n = record { mode = v.mode; role = v.role; fields = tt }

  state_valid : (y : ℕ) → T (is_state s.mode y) → Valid (state_next s s.reference y)
  unfolding state_next fields_ok
  state_valid y h =
      record {
        mode = v.mode;
        role = v.role;
        fields = and_intro (is_state s.mode y) _ h (passes s.mode _ (line-register s s.reference y v.fields));
      }

  point_valid : (d : Region) → Off s.mode d → Valid (point_next s d)
  unfolding point_next
  point_valid (State y) h = state_valid y h
  point_valid Origin h = absurd h

  origin_valid : (p : Point) (b : Bool) → is_origin p ≡ b → Valid (point_next s (decide s.mode p))
  unfolding point_next decide
  origin_valid p true o = rw o (forgotten_valid 1)
  origin_valid p false o = point_valid (decide s.mode p) (decide-off s.mode v.mode p o)

  event_valid : (e : Event) → Valid (event_next s e)
  unfolding event_next
  event_valid (point p) = origin_valid p (is_origin p) refl
  event_valid (gap n) = forgotten_valid n

  pub next_valid : (e : Event) → Valid (next s e)
  unfolding next
  next_valid e = go (refusal s e)
    where
      go : (n : ℕ) → Valid (accepted n (event_next s e) s)
      go zero = event_valid e
      go (suc n) = v

pub handed_back_passes : (s : Receiver) (e : Event) → refusal s e ≡ 0 → state_refusal (next s e) ≡ 0
handed_back_passes s e z = no_refusal (next s e) (next_valid s (accepted_valid s e z) e)

fresh_passes : (m role : ℕ) → mode_refusal m role ≡ 0 → state_refusal (fresh_receiver m role) ≡ 0
unfolding fresh_receiver state_refusal fields_ok is_fresh
fresh_passes m role z = rw z

after_passes : (s : Receiver) (es : List Event) → state_refusal s ≡ 0 → state_refusal (after s es) ≡ 0
after_passes s [] z = z
after_passes s (e ∷ es) z = after_passes (next s e) es (no_refusal (next s e) (next_valid s (valid s z) e))

pub states_pass : StatesPass
states_pass = record { fresh_passes = fresh_passes; handed_back_passes = handed_back_passes; after_passes = after_passes }

pub gap_forgets : GapForgets
unfolding answer next state_answer point_answer event_answer point_next event_next forgotten
gap_forgets s e n q = go (refusal s e) q
  where
    of_state : (o : Reference) (y d : ℕ) → state_answer s o y d ≡ lost n → ⊥
    of_state none y d p = let z : ◌≡◌ {A = ℕ} 0 1 = cc in omega arith
    of_state (some x) y d p = let z : ◌≡◌ {A = ℕ} 0 1 = cc in omega arith

    of_point : (q : Point) (d : Region) → point_answer s q d ≡ lost n → ((point_next s d).reference ≡ none) × ((point_next s d).line ≡ fresh)
    of_point q (State y) p = absurd (of_state s.reference y (distance s.mode y q) p)
    of_point q Origin p = (refl, refl)

    of_event : (e : Event) → event_answer s e ≡ lost n → ((event_next s e).reference ≡ none) × ((event_next s e).line ≡ fresh)
    of_event (point p) a = of_point p (decide s.mode p) a
    of_event (gap k) a = (refl, refl)

    go : (k : ℕ) → accepted k (event_answer s e) (refused k) ≡ lost n → ((accepted k (event_next s e) s).reference ≡ none) × ((accepted k (event_next s e) s).line ≡ fresh)
    go zero a = of_event e a
    go (suc k) a = let z : ◌≡◌ {A = ℕ} 0 1 = cc in absurd (omega arith)

-- the distance that an answer carries
module _ (s : Receiver) where
  of_answer : (e : Event) (n : ℕ) (ds : List ℕ) → n ≡ 0 → distances_of (event_answer s e) ≡ ds → distances_of (accepted n (event_answer s e) (refused n)) ≡ ds
  of_answer e zero ds z q = q
  of_answer e (suc n) ds z q = absurd (omega arith)

  without : (e : Event) (n : ℕ) → distances_of (event_answer s e) ≡ [] → distances_of (accepted n (event_answer s e) (refused n)) ≡ []
  without e zero q = q
  without e (suc n) q = refl

  of_state : (o : Reference) (y d : ℕ) → distances_of (state_answer s o y d) ≡ d ∷ []
  unfolding state_answer
  of_state none y d = refl
  of_state (some x) y d = refl

  of_region : (p : Point) (d : Region) → Off s.mode d → decide s.mode p ≡ d → distances_of (point_answer s p d) ≡ distance s.mode (decided_as s.mode (point p)) p ∷ []
  unfolding point_answer
  of_region p (State y) v e = rw e (of_state s.reference y (distance s.mode y p))
  of_region p Origin v e = absurd v

pub each_measured : EachMeasured
unfolding answer event_answer point_answer
each_measured =
    record {
      of_point = λ s p z o. of_answer s (point p) (refusal s (point p)) _ z (of_region s p (decide s.mode p) (accepted-off s p z o) refl);
      of_origin = λ s p o. without s (point p) (refusal s (point p)) (ap (λ (d : Region). distances_of (point_answer s p d)) (at_origin s.mode p o));
      of_gap = λ s n. without s (gap n) (refusal s (gap n)) refl;
    }

pub place_after_lem : PlaceAfter
place_after_lem s [] = omega arith
place_after_lem s (e ∷ es) =
    place_after_lem (next s e) es ∙ ap (λ (n : ℕ). n + heard_intervals (heard (next s e) es)) (next-placed s e)
    ∙ unfold place_after in (one (refusal s e) s.place.0 (record { event = e; answered = answer s e }) (heard (next s e) es))
  where
    one : (n p : ℕ) (x : Heard) (xs : List Heard)
        → accepted n (p + intervals x.event) p + heard_intervals xs ≡ p + heard_intervals (accepted n (x ∷ xs) xs)
    one zero p x xs = omega arith
    one (suc n) p x xs = refl

-- one list after another
pub after_append : (s : Receiver) (xs ys : List Event) → after s (xs ++ ys) ≡ after (after s xs) ys
after_append s [] ys = refl
after_append s (e ∷ es) ys = after_append (next s e) es ys

pub heard_append : (s : Receiver) (xs ys : List Event) → heard s (xs ++ ys) ≡ heard s xs ++ heard (after s xs) ys
heard_append s [] ys = refl
heard_append s (e ∷ es) ys = go (refusal s e) (record { event = e; answered = answer s e }) _ _ _ (heard_append (next s e) es ys)
  where
    go : (n : ℕ) (x : Heard) (xs ys zs : List Heard) → xs ≡ ys ++ zs → accepted n (x ∷ xs) xs ≡ accepted n (x ∷ ys) ys ++ zs
    go zero x xs ys zs q = ap (λ (l : List Heard). x ∷ l) q
    go (suc n) x xs ys zs q = q

pub each_split : (s : Receiver) (xs ys : List Event) → EachAccepted s (xs ++ ys) → EachAccepted s xs × EachAccepted (after s xs) ys
each_split s [] ys a = (tt, a)
each_split s (e ∷ xs) ys a = let z = each_split (next s e) xs ys a.1 in ((a.0, z.0), z.1)

-- an accepted call is heard; where no call is refused all are, in order
pub heard-accepted : (s : Receiver) (e : Event) (es : List Event) → refusal s e ≡ 0 → heard s (e ∷ es) ≡ record { event = e; answered = answer s e } ∷ heard (next s e) es
heard-accepted s e es z = ap (λ (n : ℕ). accepted n (record { event = e; answered = answer s e } ∷ heard (next s e) es) (heard (next s e) es)) z

pub heard_all : (s : Receiver) (es : List Event) → EachAccepted s es → events (heard s es) ≡ es
heard_all s [] f = refl
heard_all s (e ∷ es) f = ap events (heard-accepted s e es f.0) ∙ ap (λ (l : List Event). e ∷ l) (heard_all (next s e) es f.1)

-- mode and role stay
abbrev pub Same : Receiver → Receiver → Type 0
Same s t = (t.mode ≡ s.mode) × (t.role ≡ s.role)

pub same_next : (s : Receiver) (e : Event) → Same s (next s e)
unfolding next point_next event_next state_next forgotten
same_next s e = go (refusal s e) e
  where
    of_point : (d : Region) → Same s (point_next s d)
    of_point (State y) = (refl, refl)
    of_point Origin = (refl, refl)

    go : (n : ℕ) (e : Event) → Same s (accepted n (event_next s e) s)
    go zero (point p) = of_point (decide s.mode p)
    go zero (gap k) = (refl, refl)
    go (suc n) e = (refl, refl)

pub same_after : (s : Receiver) (es : List Event) → Same s (after s es)
same_after s [] = (refl, refl)
same_after s (e ∷ es) =
    let a = same_next s e in
    let b = same_after (next s e) es in
    (b.0 ∙ a.0, b.1 ∙ a.1)
