-- The receiver's calls over lent bytes: the bytes after an outcome are those of the definitions. Assumes nothing.
use Prim.Native.Nat.{ℕ, zero, suc, ◌+◌, ◌≤◌, ◌<◌}
use mathlib.Core.Path.{◌≡◌, refl, sym, ◌∙◌, ap, subst}
use mathlib.Core.Bool.{Bool, true, false, ◌&&◌, cond}
use mathlib.Core.List.{List, ◌++◌, map}
use borrow.Author.Tests.{le-leb, lt-leb, leb-false, lt-ltb, le-ltb, ltb-true, ltb-false}
use native.Mathlib.Omega.{arith}
use Rattle.line.proofs.Tests.{by_test, and_split}
use lib.Dec.{leb, ltb, eqb}
use lib.ListN.{length, get_or, take, drop}
use lib.Seq.{sets, sets-eq, drop-drop}
use borrow.Rule.Slice.PartMut.{put_mid}
use Rattle.deciding.specs.declared.SquaredUnits.{SquaredUnits}
use Rattle.line.specs.declared.Point.{Point}
use Rattle.deciding.specs.Decide.{Region, State, Origin, decide}
use Rattle.deciding.specs.Distance.{measured, decision}
use Rattle.std.specs.Prelude.{Result, Ok, Err, None as none, Some as some}
use Rattle.line.specs.declared.refusal.Refusal.{Refusal}
use Rattle.line.specs.Refusal.{number, numbered, answered, or_next, accepted}
use Rattle.line.proofs.RefusalLaws.{some_number}
use Rattle.receiver.specs.Reference.{Reference}
use Rattle.receiver.specs.declared.Receiver.{Receiver}
use Rattle.receiver.specs.declared.Group.{Group}
use Rattle.receiver.specs.declared.Intervals.{Intervals}
use Rattle.receiver.specs.declared.Outcome.{Outcome}
use Rattle.receiver.specs.declared.Outcome.TheVariants.{Referenced, Bits, Gap}
use Rattle.line.specs.Refusal.{mode_refusal}
use Rattle.line.specs.Mode.{width}
use Rattle.receiver.specs.Receiver.{Event, point, gap, Answer, refused, reference, decoded, lost, fresh_receiver, state_refusal, refusal, event_answer, answer, state_next, point_next, event_next, next}
use Rattle.receiver.proofs.OutcomeLaws.{told}
use Rattle.receiver.specs.Outcome.{answer_of, state_outcome, gap_outcome, point_outcome, event_outcome, outcome, Made, started}
use Rattle.receiver.specs.Calls.{after}
use Rattle.bulk.specs.Block.{Given, points_of, Parts, sizes, block_refusal, Told, block, parts_after}
use Rattle.octets.specs.Number.{le32}
use Rattle.std.specs.Int.{w32, to_le_bytes}
use Rattle.std.proofs.Common.{append_assoc}
use Rattle.lent.proofs.StateLaws.{le_word, making_short, making_done}
use Rattle.lent_receiver.specs.Receiving.{reference_in, receiver_in, receiver_out, answer_bytes, answer_out, fresh_number, fresh_state, holds_answer, at_most7, call_number, call_state, call_answer, block_number, block_state, block_parts, state_number}
use Rattle.lent_receiver.specs.Handing.{state_after, NoPoint, refused_number, handed_number, handed_state, handed_answer, receiver_after}

-- FOUR BYTES

-- written over a part of some bytes
pub put_word_law : (b v bytes : List ℕ) (at k n : ℕ) → at + 4 ≤ length b → k ≡ 4 → v ≡ bytes → bytes ≡ to_le_bytes w32 n → put_mid at k b v ≡ sets b at (le32 n)
put_word_law b v bytes at k n h f e g =
    let w : v ≡ le32 n = e ∙ g ∙ le_word n in
    rw (f, w) (ap (λ (l : List ℕ). take at b ++ (le32 n ++ l)) (drop-drop 4 at b) ∙ sym (append_assoc (take at b) (le32 n) (drop (at + 4) b)) ∙ sym (sets-eq (le32 n) b at h))

-- THE BYTES OF A REFERENCE

module _ (s : List ℕ) (k x b d : ℕ) (p : k ≡ get_or s 2 0) (q : x ≡ get_or s 3 0) (v : b ≡ get_or s 10 0) (w : d ≡ get_or s 11 0) where
  pub read_state : ((eqb b 0 && eqb d 0) && eqb k 1) ≡ true → some x ≡ reference_in s
  unfolding reference_in
  read_state t = rw (← p, ← q, ← v, ← w, t)

  module _ (f : ((eqb b 0 && eqb d 0) && eqb k 1) ≡ false) where
    pub read_none : ((eqb b 0 && eqb d 0) && (eqb k 0 && eqb x 0)) ≡ true → none ≡ reference_in s
    unfolding reference_in
    read_none t = rw (← p, ← q, ← v, ← w, f, t)

    pub read_neither : ((eqb b 0 && eqb d 0) && (eqb k 0 && eqb x 0)) ≡ false → some 255 ≡ reference_in s
    unfolding reference_in
    read_neither t = rw (← p, ← q, ← v, ← w, f, t)

-- WHAT AN OUTCOME LEAVES

-- the number of a refused call
module _ (e : Refusal) (answer : ℕ) where
  low : (n : ℕ) → (n ≡ 0 → ⊥) → n < 7 → n ≡ at_most7 n
  unfolding at_most7
  low n z h = rw (le-leb 1 n (positive n z), lt-ltb n 7 h)
    where
      positive : (k : ℕ) → (k ≡ 0 → ⊥) → 1 ≤ k
      positive zero f = absurd (f refl)
      positive (suc k) f = omega arith

  high : (n : ℕ) → 7 ≤ n → 7 ≡ at_most7 n
  unfolding at_most7
  high n h = rw (le-leb 1 n (omega arith), le-ltb n 7 h)

  short_number : (n : ℕ) → (n ≡ 0 → ⊥) → n ≤ 7 → n ≡ at_most7 n
  short_number n z h = by_test (ltb n 7) (λ t. low n z (ltb-true n 7 t)) (λ f. (let q : n ≡ 7 = omega (arith, ltb-false n 7 f) in q) ∙ high n (ltb-false n 7 f))

  module _ (k : ℕ) (q : k ≡ number e) where
    pub refused_late : ltb answer 12 && ltb 7 k ≡ true → 7 ≡ refused_number answer (number e)
    refused_late t =
        let z = and_split (ltb answer 12) (ltb 7 k) t in
        let l : 7 < number e = rw q at (ltb-true 7 k z.1) in
        rw (lt-leb 12 answer (ltb-true answer 12 z.0)) (high (number e) (omega (arith, l)))

    pub refused_early : ltb answer 12 && ltb 7 k ≡ false → number e ≡ refused_number answer (number e)
    refused_early f =
        by_test (leb 12 answer) (λ t. rw t) (λ g. rw g (short_number (number e) (some_number e) (most g)))
      where
        most : leb 12 answer ≡ false → number e ≤ 7
        most g =
            let s : ltb 7 k ≡ false = ap (λ (t : Bool). t && ltb 7 k) (sym (lt-ltb answer 12 (leb-false 12 answer g))) ∙ f in
            rw q at (ltb-false 7 k s)

module _ (state answer : List ℕ) (o : Result Outcome Refusal) where
  abbrev Handed : ℕ → List ℕ → List ℕ → Type 0
  Handed r st an = (r ≡ handed_number answer o) × (st ≡ handed_state state answer o) × (an ≡ handed_answer answer o)

  pub handed_refused : (e f : Refusal) → o ≡ Err e → number f ≡ refused_number (length answer) (number e) → Handed (number f) state answer
  unfolding handed_number handed_state handed_answer
  handed_refused e f is q = rw is (q, same (holds_answer answer) state, same (holds_answer answer) answer)
    where
      same : (t : Bool) (b : List ℕ) → b ≡ cond t b b
      same true b = refl
      same false b = refl

  -- an outcome that refuses nothing
  pub short_taken : (x : Outcome) → length answer < 12 → o ≡ Ok x → Handed 7 state answer
  unfolding handed_number handed_state handed_answer at_most7
  short_taken x h is = let f : leb 12 (length answer) ≡ false = lt-leb _ _ h in (rw (f, is), rw f, rw f)

  module _ (h : 12 ≤ length answer) where
    handed : (x : Outcome) (st an : List ℕ) → o ≡ Ok x → st ≡ state_after (Ok x) state → an ≡ sets answer 0 (answer_out (Ok x)) → Handed 0 st an
    unfolding handed_number handed_state handed_answer
    handed x st an e u v = rw (le-leb 12 (length answer) h, e) (refl, u, v)

    module _ (t : Receiver) (st an : List ℕ) (u : st ≡ sets state 0 (receiver_out t)) where
      pub handed_reference : (d : SquaredUnits) → o ≡ Ok (Referenced d t) → an ≡ sets answer 0 (answer_bytes 0 0 0 0 0 d.0) → Handed 0 st an
      handed_reference d e v = handed (Referenced d t) st an e u v

      pub handed_bits : (g : Group) (d : SquaredUnits) → o ≡ Ok (Bits g d t) → an ≡ sets answer 0 (answer_bytes 1 g.line g.plain g.unsettled.0 0 d.0) → Handed 0 st an
      handed_bits g d e v = handed (Bits g d t) st an e u v

      pub handed_gap : (n : Intervals) → o ≡ Ok (Gap n t) → an ≡ sets answer 0 (answer_bytes 2 0 0 0 n.0 0) → Handed 0 st an
      handed_gap n e v = handed (Gap n t) st an e u v

-- no decided point is a gap's outcome
pub only_gap : (o : Result Outcome Refusal) (x : Outcome) → NoPoint o → o ≡ Ok x → ((n : Intervals) (t : Receiver) → x ≡ Gap n t → ⊥) → ⊥
only_gap o x p is g = go x (subst NoPoint is p) g
  where
    go : (y : Outcome) → NoPoint (Ok y) → ((n : Intervals) (t : Receiver) → y ≡ Gap n t → ⊥) → ⊥
    go (Referenced d t) q f = q
    go (Bits b d t) q f = q
    go (Gap n t) q f = f n t refl

-- AN EVENT

-- an outcome that is no refusal, and the state after it
abbrev Left : Outcome → Receiver → Type 0
Left o t = (b : List ℕ) → state_after (Ok o) b ≡ sets b 0 (receiver_out t)

abbrev number_in : Answer → ℕ
number_in (refused n) = n
number_in (reference d) = 0
number_in (decoded ls ds d) = 0
number_in (lost n) = 0

module _ (s : Receiver) where
  state_left : (r : Reference) (y : ℕ) (d : SquaredUnits) → Left (state_outcome s r y d) (state_next s r y)
  unfolding state_outcome
  state_left none y d = λ b. refl
  state_left (some x) y d = λ b. refl

  point_left : (p : Point) (d : Region) → Left (point_outcome s (measured s.mode p d)) (point_next s d)
  unfolding point_outcome point_next
  point_left p (State y) = state_left s.reference y _
  point_left p Origin = λ b. refl

  event_left : (e : Event) → Left (event_outcome s e) (event_next s e)
  unfolding event_outcome event_next decision
  event_left (point p) = point_left p (decide s.mode p)
  event_left (gap n) = λ b. refl

  -- the state's bytes and the answer's bytes of an outcome
  outcome-left : (e : Event)
      → ((b : List ℕ) → state_after (outcome s e) b ≡ accepted (refusal s e) (sets b 0 (receiver_out (next s e))) b)
      × ((b : List ℕ) → sets b 0 (answer_out (outcome s e)) ≡ accepted (refusal s e) (sets b 0 (answer_out (outcome s e))) b)
  unfolding outcome next
  outcome-left e = go (refusal s e)
    where
      go : (n : ℕ)
          → ((b : List ℕ) → state_after (answered n (event_outcome s e)) b ≡ accepted n (sets b 0 (receiver_out (accepted n (event_next s e) s))) b)
          × ((b : List ℕ) → sets b 0 (answer_out (answered n (event_outcome s e))) ≡ accepted n (sets b 0 (answer_out (answered n (event_outcome s e)))) b)
      go zero = (event_left e, λ b. refl)
      go (suc n) = (λ b. refl, λ b. refl)

  -- and its number
  numbered_outcome : (e : Event) → numbered (outcome s e) ≡ refusal s e
  unfolding outcome answer
  numbered_outcome e = go (refusal s e) (told s e).answer_is
    where
      go : (n : ℕ) → answer_of (width s.mode) (answered n (event_outcome s e)) ≡ accepted n (event_answer s e) (refused n) → numbered (answered n (event_outcome s e)) ≡ n
      go zero q = refl
      go (suc n) q = ap number_in q

  -- a gap decides no point
  pub gap_no_point : (n : ℕ) (o : Result Outcome Refusal) → o ≡ outcome s (gap n) → NoPoint o
  unfolding outcome event_outcome
  gap_no_point n o e = subst NoPoint (sym e) (go (refusal s (gap n)))
    where
      go : (k : ℕ) → NoPoint (answered k (gap_outcome s n))
      go zero = tt
      go (suc k) = tt

-- number 7 and a lower one leave every byte
leaves : (n : ℕ) (x b : List ℕ) → accepted (at_most7 n) x b ≡ b
unfolding at_most7
leaves zero x b = refl
leaves (suc n) x b = go (leb 1 (suc n) && ltb (suc n) 7)
  where
    go : (t : Bool) → accepted (cond t (suc n) 7) x b ≡ b
    go true = refl
    go false = refl

lent : (t : Bool) (n : ℕ) (x y b : List ℕ) → y ≡ accepted n x b → cond t y b ≡ accepted (cond t n (at_most7 n)) x b
lent true n x y b q = q
lent false n x y b q = sym (leaves n x b)

module _ (state answer : List ℕ) (e : Event) where
  pub call_short : length state < 16
      → (7 ≡ call_number state answer e) × (state ≡ call_state state answer e) × (answer ≡ call_answer state answer e)
  unfolding call_number call_state call_answer
  call_short h = let f : leb 16 (length state) ≡ false = lt-leb _ _ h in (rw f, rw f, rw f)

  pub call_done : (s : Receiver) (o : Result Outcome Refusal) (r : ℕ) (st an : List ℕ) → 16 ≤ length state → s ≡ receiver_in state → o ≡ outcome s e
      → (r ≡ handed_number answer o) × (st ≡ handed_state state answer o) × (an ≡ handed_answer answer o)
      → (r ≡ call_number state answer e) × (st ≡ call_state state answer e) × (an ≡ call_answer state answer e)
  unfolding call_number call_state call_answer handed_number handed_state handed_answer
  call_done s o r st an h p q g =
      let f : leb 16 (length state) ≡ true = le-leb _ _ h in
      let i : o ≡ outcome (receiver_in state) e = q ∙ ap (λ (t : Receiver). outcome t e) p in
      let n = numbered_outcome (receiver_in state) e in
      let k = outcome-left (receiver_in state) e in (
        rw (f, ← n, ← i) g.0,
        rw f (g.1 ∙ lent (leb 12 (length answer)) _ _ _ state (rw i (k.0 state))),
        rw f (g.2 ∙ lent (leb 12 (length answer)) _ _ _ answer (rw i (k.1 answer))),
      )

-- A RECEIVER THAT IS GIVEN

receiver-leaves : (n : ℕ) (t : Receiver) (b : List ℕ) → receiver_after (answered n t) b ≡ accepted n (sets b 0 (receiver_out t)) b
receiver-leaves zero t b = refl
receiver-leaves (suc n) t b = refl

-- MANY POINTS

module _ (state : List ℕ) (g : Given) (b : Parts) where
  abbrev Took : ℕ → List ℕ → Parts → Type 0
  Took r st c = (r ≡ block_number state g b) × (st ≡ block_state state g b) × (c ≡ block_parts state g b)

  pub block_short : length state < 16 → Took 7 state b
  unfolding block_number block_state block_parts
  block_short h = let f : leb 16 (length state) ≡ false = lt-leb _ _ h in (rw f, rw f, rw f)

  pub block_done : (s : Receiver) (r : Result Receiver Refusal) (c : Parts) → 16 ≤ length state → s ≡ receiver_in state → (r ≡ block s g (sizes b)) × (c ≡ parts_after s g b) → Told s g (sizes b) r
      → Took (numbered r) (receiver_after r state) c
  unfolding block block_number block_state block_parts
  block_done s r c h e q k =
      rw (le-leb 16 (length state) h, ← e) (
        k.number_is,
        ap (λ (d : Result Receiver Refusal). receiver_after d state) q.0 ∙ receiver-leaves (block_refusal s g (sizes b)) (after s (map point (points_of g))) state,
        q.1,
      )

-- THE STATE ALONE

module _ (state : List ℕ) where
  pub fault_short : length state < 16 → 7 ≡ state_number state
  unfolding state_number
  fault_short h = rw (lt-leb 16 (length state) h)

  pub fault_of_lem : (s : Receiver) (n : ℕ) → 16 ≤ length state → s ≡ receiver_in state → n ≡ state_refusal s → n ≡ state_number state
  unfolding state_number
  fault_of_lem s n h e q = q ∙ rw (le-leb 16 (length state) h, ← e)

-- MAKING A RECEIVER

module _ (state : List ℕ) (m role : ℕ) where
  abbrev Starts : ℕ → List ℕ → Type 0
  Starts k st = (k ≡ fresh_number state m role) × (st ≡ fresh_state state m role)

  pub fresh_short : (f k : ℕ) → length state < 16 → f ≡ mode_refusal m role → k ≡ or_next f 7 → Starts k state
  unfolding fresh_number fresh_state
  fresh_short f k h e p = making_short state (mode_refusal m role) k _ h (p ∙ ap (λ (n : ℕ). or_next n 7) e)

  pub fresh_done : (r : Result Receiver Refusal) → 16 ≤ length state → (r ≡ started m role) × Made m role r → Starts (numbered r) (receiver_after r state)
  unfolding started fresh_number fresh_state
  fresh_done r h q =
      making_done state (mode_refusal m role) (numbered r) _ (receiver_after r state) h (
        q.1.number,
        ap (λ (c : Result Receiver Refusal). receiver_after c state) q.0 ∙ receiver-leaves (mode_refusal m role) (fresh_receiver m role) state,
      )
