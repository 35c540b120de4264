-- One event of a block: what its answer gives is what the event gives. Assumes nothing.
use mathlib.Core.Path.{◌≡◌, refl, sym, ap, ap₂, ◌∙◌}
use mathlib.Core.Bool.{Bool, true, false, not, cond}
use mathlib.Core.List.{List, [], ◌∷◌, append-nil}
use Prim.Native.Nat.{ℕ, zero, suc, ◌+◌, ◌≤◌}
use native.Mathlib.Omega.{arith}
use lib.Dec.{leb, leb→le}
use lib.ListN.{length}
use lib.Seq.{sets}
use Rattle.line.specs.declared.Point.{Point}
use Rattle.line.specs.Mode.{width}
use Rattle.line.specs.Point.{is_origin, in_range}
use Rattle.line.specs.Refusal.{number, named, numbered, or_next, accepted}
use Rattle.line.proofs.RefusalLaws.{named_number, some_number, need_met, need_rest, next_rest}
use Rattle.line.proofs.Tests.{by_test}
use Rattle.deciding.specs.Decide.{Region, State, Origin, decide}
use Rattle.deciding.proofs.DecideLaws.{Off, at_origin}
use Rattle.std.specs.Prelude.{Option, Some, None, Result, Ok, Err, ⊤}
use Rattle.std.specs.Result.{result_err}
use Rattle.std.specs.Option.{is_some}
use Rattle.std.proofs.lemmas.Option.{none-some}
use Rattle.std.specs.Prelude.{None as none, Some as some}
use Rattle.line.specs.declared.refusal.Refusal.{Refusal}
use Rattle.receiver.specs.Reference.{Reference}
use Rattle.receiver.specs.declared.Receiver.{Receiver}
use Rattle.receiver.specs.declared.Outcome.{Outcome}
use Rattle.receiver.specs.declared.Outcome.TheVariants.{Referenced, Bits, Gap}
use Rattle.receiver.specs.declared.Group.{Group}
use Rattle.receiver.specs.declared.Intervals.{Intervals}
use Rattle.deciding.specs.declared.SquaredUnits.{SquaredUnits}
use Rattle.scrambler.specs.Bits.{bits}
use Rattle.scrambler.specs.Group.{marked}
use Rattle.receiver.specs.Receiver.{Answer, refused, reference, decoded, lost, state_answer, point_answer, event_answer, answer, intervals, state_refusal, has_room, event_refusal, refusal, next}
use Rattle.receiver.specs.Outcome.{answer_of, state_of, Told}
use Rattle.receiver.proofs.CallLaws.{accepted-off}
use Rattle.store.specs.Layout.{Event, point}
use Rattle.store.specs.Layout.{lost as lostFor}
use Rattle.scrambler.specs.Scramble.{Datum}
use Rattle.summing.specs.declared.EventSums.{EventSums}
use Rattle.summing.specs.Sums.{decided_in, lost_in, gaps_in, sums_of}
use Rattle.summing.proofs.SumLaws.{plus_none}
use Rattle.capture.specs.Capture.{size}
use Rattle.listing.specs.declared.stream.ListedEvents.{ListedEvents}
use Rattle.listing.specs.Text.{kind_text, line_text, taken}
use Rattle.listing.specs.Stream.{refusal_of}
use Rattle.listing.specs.Wrote.{Wrote}
use Rattle.listing.specs.Onward.{first_of, unless, more_lines, onward, stopped, further, answer_text, answer_sums, answered}

pub same-listed : (a b : ListedEvents) → a.state ≡ b.state → a.sums ≡ b.sums → a.count ≡ b.count → a.used ≡ b.used → a.refusal ≡ b.refusal → a ≡ b
same-listed a b p q r s t =
    let of : Receiver → EventSums → ℕ → ℕ → Option Refusal → ListedEvents = λ x y c u r. record { state = x; sums = y; count = c; used = u; refusal = r } in
    ap (λ (x : Receiver). of x a.sums a.count a.used a.refusal) p
    ∙ ap (λ (y : EventSums). of b.state y a.count a.used a.refusal) q
    ∙ ap (λ (c : ℕ). of b.state b.sums c a.used a.refusal) r
    ∙ ap (λ (u : ℕ). of b.state b.sums b.count u a.refusal) s
    ∙ ap (of b.state b.sums b.count b.used) t

-- ---- a refusal and its number
pub some_refusal : (e : Refusal) (n : ℕ) → number e ≡ n → Some e ≡ refusal_of n
some_refusal e zero h = absurd (some_number e h)
some_refusal e (suc n) h = ap Some (sym (named_number e) ∙ ap named h)

pub refusal_err : (r : Result ⊤ Refusal) (n : ℕ) → numbered r ≡ n → result_err r ≡ refusal_of n
refusal_err (Ok u) n h = rw (← h) refl
refusal_err (Err e) n h = some_refusal e n h

pub refusal_none : (n : ℕ) → refusal_of n ≡ None → n ≡ 0
refusal_none zero e = refl
refusal_none (suc n) e = absurd (none-some _ (sym e))

pub none_told : (r : Option Refusal) (b : Bool) → is_some r ≡ not b → b ≡ true → r ≡ None
none_told None b h e = refl
none_told (Some x) true h e = let z : ◌≡◌ {A = ℕ} 1 0 = ap (λ (t : Bool). cond t 1 0) h in absurd (omega arith)
none_told (Some x) false h e = let z : ◌≡◌ {A = ℕ} 0 1 = ap (λ (t : Bool). cond t 1 0) e in absurd (omega arith)

pub some_told : (r : Option Refusal) (b : Bool) → is_some r ≡ not b → b ≡ false → r ≡ None → ⊥
some_told None true h e q = let z : ◌≡◌ {A = ℕ} 1 0 = ap (λ (t : Bool). cond t 1 0) e in omega arith
some_told None false h e q = let z : ◌≡◌ {A = ℕ} 0 1 = ap (λ (t : Bool). cond t 1 0) h in omega arith
some_told (Some x) b h e q = none-some x (sym q)

pub refusal_next : (a b : ℕ) → first_of (refusal_of a) (refusal_of b) ≡ refusal_of (or_next a b)
refusal_next zero b = refl
refusal_next (suc a) b = refl

pub unless_accepted : {A : Type 0} (n : ℕ) (a b : A) → unless (refusal_of n) a b ≡ accepted n a b
unless_accepted zero a b = refl
unless_accepted (suc n) a b = refl

pub unless_some : {A : Type 0} (r : Option Refusal) (a b : A) → (r ≡ None → ⊥) → unless r a b ≡ b
unless_some None a b k = absurd (k refl)
unless_some (Some e) a b k = refl

-- ---- an answer that is none of refusal, with the sums v
pub record Given (a : Answer) (v : EventSums) : Type 0 where
  pub sums : answer_sums a ≡ v
  pub line : (place : ℕ) → answer_text place a ≡ line_text place a
  pub next : (h : ListedEvents) (t : Receiver) (b : ℕ) → answered h a t b ≡ further h t (h.count + length (line_text h.state.place.0 a)) b (answer_sums a)

pub given_reference : (d : ℕ) → Given (reference d) (record { points = 1; lost = 0; gaps = 0 })
given_reference d = record { sums = refl; line = λ p. refl; next = λ h t b. refl }

pub given_bits : (ls : List ℕ) (ds : List Datum) (d : ℕ) → Given (decoded ls ds d) (record { points = 1; lost = 0; gaps = 0 })
given_bits ls ds d = record { sums = refl; line = λ p. refl; next = λ h t b. refl }

pub given_lost : (n : ℕ) → Given (lost n) (record { points = 0; lost = n; gaps = 1 })
given_lost n = record { sums = refl; line = λ p. refl; next = λ h t b. refl }

given_state : (s : Receiver) (r : Reference) (y d : ℕ) → Given (state_answer s r y d) (record { points = 1; lost = 0; gaps = 0 })
unfolding state_answer
given_state s none y d = given_reference d
given_state s (some x) y d = given_bits _ _ d

given_point : (s : Receiver) (p : Point) (d : Region) → Off s.mode d → Given (point_answer s p d) (record { points = 1; lost = 0; gaps = 0 })
unfolding point_answer
given_point s p (State y) h = given_state s s.reference y _
given_point s p Origin h = absurd h

given_event : (s : Receiver) (e : Event) → refusal s (taken e) ≡ 0 → Given (event_answer s (taken e)) (sums_of (e ∷ []))
unfolding event_answer point_answer
given_event s (point p) a =
    by_test (is_origin p)
    (λ e. rw (e, at_origin s.mode p e) (given_lost 1))
    (λ e. rw e (given_point s p (decide s.mode p) (accepted-off s p a e)))
given_event s (lostFor n) a = let z : n + 0 ≡ n = omega arith in rw z (given_lost n)

-- ---- one event more
module _ (h : ListedEvents) (e : Event) (nz : h.refusal ≡ None) where
  pub one_accepted : refusal h.state (taken e) ≡ 0
      → onward h (e ∷ []) ≡ further h (next h.state (taken e)) (h.count + length (line_text h.state.place.0 (answer h.state (taken e)))) (size e) (sums_of (e ∷ []))
  unfolding onward more_lines
  one_accepted z =
      rw (z, nz) (same-listed _ _ refl refl
      (ap (λ (l : List ℕ). h.count + length l) (append-nil (line_text h.state.place.0 (answer h.state (taken e)))))
      (let q : h.used + (size e + 0) ≡ h.used + size e = omega arith in q) refl)

  pub one_refused : (n : ℕ) → refusal h.state (taken e) ≡ suc n → onward h (e ∷ []) ≡ stopped h (suc n)
  unfolding onward more_lines
  one_refused n z = rw (z, nz) (same-listed _ _ refl (plus_none h.sums) (let q : h.count + 0 ≡ h.count = omega arith in q) (let q : h.used + 0 ≡ h.used = omega arith in q) refl)

  pub one_line : refusal h.state (taken e) ≡ 0 → more_lines h (e ∷ []) ≡ line_text h.state.place.0 (answer h.state (taken e))
  unfolding more_lines
  one_line z = rw z (append-nil (line_text h.state.place.0 (answer h.state (taken e))))

  pub none_line : (n : ℕ) → refusal h.state (taken e) ≡ suc n → more_lines h (e ∷ []) ≡ []
  unfolding more_lines
  none_line n z = rw z

  answered_one : (n : ℕ) → refusal h.state (taken e) ≡ n
      → (answered h (answer h.state (taken e)) (next h.state (taken e)) (size e) ≡ onward h (e ∷ [])) × (answer_text h.state.place.0 (answer h.state (taken e)) ≡ more_lines h (e ∷ []))
  unfolding answer
  answered_one zero z =
      let g = given_event h.state e z in
      let a : answer h.state (taken e) ≡ event_answer h.state (taken e) = rw z in (
        ap (λ (x : Answer). answered h x (next h.state (taken e)) (size e)) a
            ∙ g.next h _ (size e)
            ∙ ap₂ (λ (x : Answer) (v : EventSums). further h (next h.state (taken e)) (h.count + length (line_text h.state.place.0 x)) (size e) v) (sym a) g.sums
            ∙ sym (one_accepted z),
        ap (answer_text h.state.place.0) a ∙ g.line h.state.place.0 ∙ ap (line_text h.state.place.0) (sym a) ∙ sym (one_line z),
      )
  answered_one (suc n) z =
      let a : answer h.state (taken e) ≡ refused (suc n) = rw z in (
        ap (λ (x : Answer). answered h x (next h.state (taken e)) (size e)) a ∙ sym (one_refused n z),
        ap (answer_text h.state.place.0) a ∙ sym (none_line n z),
      )

  -- what an outcome gives
  pub outcome_one : (o : Result Outcome Refusal) (r : ListedEvents) (b : ℕ) (out out' : List ℕ) → Told h.state (taken e) o → b ≡ size e
      → (r ≡ answered h (answer_of (width h.state.mode) o) (state_of h.state o) b) × (out' ≡ sets out h.count (answer_text h.state.place.0 (answer_of (width h.state.mode) o)))
      → (r ≡ onward h (e ∷ [])) × (out' ≡ sets out h.count (more_lines h (e ∷ [])))
  outcome_one o r b out out' t eb g =
      let k = answered_one (refusal h.state (taken e)) refl in (
        g.0 ∙ ap (λ (m : ℕ). answered h (answer_of (width h.state.mode) o) (state_of h.state o) m) eb
            ∙ ap₂ (λ (x : Answer) (y : Receiver). answered h x y (size e)) t.answer_is t.state_is ∙ k.0,
        g.1 ∙ ap (λ (x : Answer). sets out h.count (answer_text h.state.place.0 x)) t.answer_is ∙ ap (sets out h.count) k.1,
      )

-- none
first_none : (r : Option Refusal) → first_of r None ≡ r
first_none None = refl
first_none (Some e) = refl

pub onward_none : (h : ListedEvents) → onward h [] ≡ h
unfolding onward more_lines
onward_none h = same-listed _ _ refl (plus_none h.sums) (let q : h.count + 0 ≡ h.count = omega arith in q) (let q : h.used + 0 ≡ h.used = omega arith in q) (first_none h.refusal)

-- ---- what each case of an outcome gives
module _ (h : ListedEvents) (o : Result Outcome Refusal) (b : ℕ) where
  abbrev Gives : List ℕ → List ℕ → ListedEvents → Type 0
  Gives out out' r =
      (r ≡ answered h (answer_of (width h.state.mode) o) (state_of h.state o) b) × (out' ≡ sets out h.count (answer_text h.state.place.0 (answer_of (width h.state.mode) o)))

  pub gives_refused : (f : Refusal) (out : List ℕ) → o ≡ Err f → Gives out out (record { state = h.state; sums = h.sums; count = h.count; used = h.used; refusal = Some f })
  gives_refused f out e = rw e (same-listed _ _ refl refl refl refl (some_refusal f (number f) refl), refl)

  -- a line of the same kind is written, up to `end`
  same_line : (a a' : Answer) → kind_text a' ≡ kind_text a → line_text h.state.place.0 a' ≡ line_text h.state.place.0 a
  unfolding line_text
  same_line a a' k = rw k

  pub gives_line : (a a' : Answer) (v : EventSums) (t : Receiver) (out out' : List ℕ) (end : ℕ) (r : ListedEvents) → Given a v → kind_text a' ≡ kind_text a
      → answer_of (width h.state.mode) o ≡ a → state_of h.state o ≡ t → Wrote out h.count (line_text h.state.place.0 a') out' end
      → r ≡ further h t end b v → Gives out out' r
  gives_line a a' v t out out' end r g k ea et w er =
      let l = same_line a a' k in
      rw (ea, et) (
        er ∙ ap₂ (λ (n : ℕ) (u : EventSums). further h t n b u) (w.behind ∙ ap (λ (x : List ℕ). h.count + length x) l) (sym g.sums) ∙ sym (g.next h t b),
        w.written ∙ ap (sets out h.count) (l ∙ sym (g.line h.state.place.0)),
      )

  pub gives_reference : {out out' : List ℕ} {end : ℕ} {r : ListedEvents} (d : SquaredUnits) (t : Receiver) → o ≡ Ok (Referenced d t)
      → Wrote out h.count (line_text h.state.place.0 (reference 0)) out' end → r ≡ further h t end b (record { points = 1; lost = 0; gaps = 0 }) → Gives out out' r
  unfolding kind_text
  gives_reference {out} {out'} {end} {r} d t e w er =
      gives_line (reference d.0) (reference 0) _ t out out' end r (given_reference d.0) refl (ap (answer_of (width h.state.mode)) e) (ap (state_of h.state) e) w er

  pub gives_bits : {out out' : List ℕ} {end : ℕ} {r : ListedEvents} (w : ℕ) (g : Group) (d : SquaredUnits) (t : Receiver) → o ≡ Ok (Bits g d t) → w ≡ width h.state.mode
      → Wrote out h.count (line_text h.state.place.0 (decoded (bits w g.line) (marked g.unsettled.0 (bits w g.plain)) 0)) out' end
      → r ≡ further h t end b (record { points = 1; lost = 0; gaps = 0 }) → Gives out out' r
  unfolding kind_text
  gives_bits {out} {out'} {end} {r} w g d t e ew wr er =
      gives_line (decoded (bits w g.line) (marked g.unsettled.0 (bits w g.plain)) d.0) (decoded (bits w g.line) (marked g.unsettled.0 (bits w g.plain)) 0) _ t out out' end r
      (given_bits _ _ d.0) refl (ap₂ answer_of (sym ew) e) (ap (state_of h.state) e) wr er

  pub gives_gap : {out out' : List ℕ} {end : ℕ} {r : ListedEvents} (n : Intervals) (t : Receiver) → o ≡ Ok (Gap n t)
      → Wrote out h.count (line_text h.state.place.0 (lost n.0)) out' end → r ≡ further h t end b (record { points = 0; lost = n.0; gaps = 1 }) → Gives out out' r
  gives_gap {out} {out'} {end} {r} n t e w er =
      gives_line (lost n.0) (lost n.0) _ t out out' end r (given_lost n.0) refl (ap (answer_of (width h.state.mode)) e) (ap (state_of h.state) e) w er

-- ---- what stands at a place of a capture
module _ (h : ListedEvents) (out : List ℕ) where
  pub listed_one : (x e : Event) (nz : h.refusal ≡ None) (o : Result Outcome Refusal) (r : ListedEvents) (b : ℕ) (out' : List ℕ) → x ≡ e → Told h.state (taken e) o → b ≡ size e
      → (r ≡ answered h (answer_of (width h.state.mode) o) (state_of h.state o) b) × (out' ≡ sets out h.count (answer_text h.state.place.0 (answer_of (width h.state.mode) o)))
      → (r ≡ onward h (x ∷ [])) × (out' ≡ sets out h.count (more_lines h (x ∷ [])))
  listed_one x e nz o r b out' q t eb g = rw q (outcome_one h e nz o r b out out' t eb g)

-- ---- what an accepted event adds to the place and to the sums
one_of_both : (p : Bool) → cond p 0 1 + cond p 1 0 ≡ 1
one_of_both true = refl
one_of_both false = refl

pub record Adds (s : Receiver) (e : Event) : Type 0 where
  pub intervals_are : decided_in e + lost_in e ≡ intervals (taken e)
  pub gaps_lose : gaps_in e ≤ lost_in e
  pub room : s.place.0 + intervals (taken e) ≤ 4294967295

pub adds : (s : Receiver) (e : Event) → refusal s (taken e) ≡ 0 → Adds s e
unfolding refusal event_refusal has_room
adds s (point p) a =
    let z = need_met (leb (s.place.0 + 1) 4294967295) 15 0 (need_rest (in_range p) 7 _ (next_rest (state_refusal s) _ a)) in
    record { intervals_are = one_of_both (is_origin p); gaps_lose = omega arith; room = leb→le (s.place.0 + 1) 4294967295 z }
adds s (lostFor n) a =
    let r = next_rest (state_refusal s) _ a in
    let z = need_met (leb (s.place.0 + n) 4294967295) 15 0 (need_rest (leb 1 n) 8 _ r) in
    record { intervals_are = omega arith; gaps_lose = leb→le 1 n (need_met (leb 1 n) 8 _ r); room = leb→le (s.place.0 + n) 4294967295 z }
