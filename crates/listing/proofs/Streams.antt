-- The events of a block, one after the other. Assumes nothing.
use mathlib.Core.Path.{◌≡◌, refl, sym, ap, ◌∙◌, subst⁻¹}
use mathlib.Core.Bool.{Bool, ◌&&◌}
use mathlib.Core.List.{List, [], ◌∷◌, ◌++◌, map, append_assoc}
use Prim.Native.Nat.{ℕ, zero, suc, ◌+◌, ◌*◌, ◌-◌, ◌≤◌, ◌<◌, min}
use native.Mathlib.Omega.{arith}
use native.Mathlib.Nat.{zero-add}
use borrow.Author.Tests.{le-leb, lt-leb, leb-true, leb-false}
use lib.Dec.{leb}
use lib.ListN.{length, drop, length-append, length-drop}
use lib.Seq.{sets, drop-drop}
use Rattle.line.specs.declared.refusal.Refusal.{Refusal}
use Rattle.line.specs.Refusal.{named, need, or_next, accepted}
use Rattle.line.proofs.RefusalLaws.{Listed, listed_need, listed_next, need-zero, next-first, or_zero}
use Rattle.line.proofs.Tests.{by_test, and_split}
use Rattle.receiver.specs.declared.Receiver.{Receiver}
use Rattle.receiver.specs.Receiver.{state_refusal, event_refusal, refusal, answer, next}
use Rattle.receiver.proofs.OutcomeLaws.{listed_mode, accepted-placed}
use Rattle.store.specs.Layout.{Event, point, lost}
use Rattle.summing.specs.declared.EventSums.{EventSums}
use Rattle.summing.specs.Sums.{sums_of, plus, Small}
use Rattle.summing.proofs.SumLaws.{parts_add, plus_assoc, plus_none}
use Rattle.std.specs.Prelude.{Option, Some, None}
use Rattle.std.proofs.lemmas.Option.{none-some}
use Rattle.capture.specs.declared.Event.{Event as Read}
use Rattle.capture.specs.Capture.{first, size, events_in, event_of, told}
use Rattle.listing.specs.declared.stream.ListedEvents.{ListedEvents}
use Rattle.listing.specs.Text.{line_text, taken, lines}
use Rattle.listing.specs.Stream.{until_refused, first_refused, sums_ok, longest_block, block_refusal, block_events, block_taken, refusal_of, number_in, listed_events, listed_bytes}
use Rattle.listing.specs.Onward.{first_of, unless, begun, more_lines, onward}
use Rattle.listing.proofs.Writes.{Rest, rest_all, rest_then, rest_none}
use Rattle.listing.proofs.Lengths.{event_long}
use Rattle.listing.proofs.Events.{size_least, first-whole, events_none, events_one}
use Rattle.listing.proofs.Answers.{same-listed, refusal_none, refusal_next, unless_accepted, unless_some, one_accepted, one_refused, onward_none, adds}

-- ---- one event, and then others
module _ (h : ListedEvents) (e : Event) (nz : h.refusal ≡ None) (rest : List Event) where
  abbrev one : ListedEvents
  one = onward h (e ∷ [])

  abbrev later : List Event
  later = unless one.refusal rest []

  onward-step : (n : ℕ) → refusal h.state (taken e) ≡ n → onward one later ≡ onward h (e ∷ rest)
  unfolding onward more_lines
  onward-step zero z =
      let s : Receiver = next h.state (taken e) in
      let ts : List Event = until_refused s rest in
      let l : List ℕ = line_text h.state.place.0 (answer h.state (taken e)) in
      rw (z, nz) (same-listed _ _ refl
      (plus_assoc h.sums (sums_of (e ∷ [])) (sums_of ts) ∙ ap (plus h.sums) (sym (parts_add (e ∷ []) ts)))
      (let q : h.count + length (l ++ []) + length (lines s (map taken ts)) ≡ h.count + length (l ++ lines s (map taken ts)) = simp length-append (omega arith) in q)
      (omega arith) refl)
  onward-step (suc n) z =
      rw (z, nz) (same-listed _ _ refl (plus_none (plus h.sums (sums_of []))) (omega arith) (omega arith) refl)

  lines_step : (n : ℕ) → refusal h.state (taken e) ≡ n → more_lines h (e ∷ rest) ≡ more_lines h (e ∷ []) ++ more_lines one later
  unfolding onward more_lines
  lines_step zero z = rw (z, nz) (sym (append_assoc (line_text h.state.place.0 (answer h.state (taken e))) [] _))
  lines_step (suc n) z = rw (z, nz)

  pub after_one : onward one later ≡ onward h (e ∷ rest)
  after_one = onward-step (refusal h.state (taken e)) refl

  pub lines_after : more_lines h (e ∷ rest) ≡ more_lines h (e ∷ []) ++ more_lines one later
  lines_after = lines_step (refusal h.state (taken e)) refl

more_none : (h : ListedEvents) → more_lines h [] ≡ []
unfolding more_lines
more_none h = refl

counted : (h : ListedEvents) (es : List Event) → (onward h es).count ≡ h.count + length (more_lines h es)
unfolding onward
counted h es = refl

-- ---- the loop
-- the events that are left: none after a refused one
abbrev pub left : List ℕ → ListedEvents → List Event
left bs h = unless h.refusal (events_in (drop h.used bs)) []

-- a block of not too many bytes, and sums of what the receiver took
pub record Fine (bs : List ℕ) (h : ListedEvents) : Type 0 where
  pub few : length bs ≤ 65536
  pub fits : h.sums.points + h.sums.lost ≤ h.state.place.0
  pub gaps_lose : h.sums.gaps ≤ h.sums.lost
  pub place_in : h.state.place.0 ≤ 4294967295

pub record Streaming (bs out₀ out : List ℕ) (h₀ h : ListedEvents) : Type 0 where
  pub long : length out ≡ length out₀
  pub whole : onward h (left bs h) ≡ onward h₀ (left bs h₀)
  pub text : Rest out₀ out h₀.count h.count (more_lines h₀ (left bs h₀)) (more_lines h (left bs h))
  pub inside : h.used ≤ length bs
  pub room : h.count ≤ 7 * h.used
  pub fine : h.refusal ≡ None → Fine bs h

-- what one event leaves
record Took (bs : List ℕ) (h : ListedEvents) (e : Event) (rest : List Event) (r : ListedEvents) : Type 0 where
  left_is : left bs r ≡ unless r.refusal rest []
  inside : r.used ≤ length bs
  room : r.count ≤ 7 * r.used
  fine : r.refusal ≡ None → Fine bs r
  less : unless r.refusal (suc (length bs - r.used)) 0 < suc (length bs - h.used)

module _ (bs : List ℕ) (h : ListedEvents) (e : Event) (nz : h.refusal ≡ None) (i : h.used ≤ length bs) (c : h.count ≤ 7 * h.used) (f : Fine bs h)
    (q : first (drop h.used bs) ≡ e ∷ []) where
  abbrev behind : List Event
  behind = events_in (drop (size e) (drop h.used bs))

  took_accepted : refusal h.state (taken e) ≡ 0 → Took bs h e behind (onward h (e ∷ []))
  took_accepted z =
      let s : Receiver = h.state in
      let w : size e ≤ length bs - h.used = omega (arith, first-whole (drop h.used bs) e q, length-drop h.used bs) in
      let a = adds s e z in
      let m = size_least e in
      rw (one_accepted h e nz z)
      (record {
        left_is = ap events_in (sym (drop-drop (size e) h.used bs));
        inside = omega arith;
        room = omega (arith, event_long s e);
        fine = λ _.
            record {
              few = f.few;
              fits = omega (arith, f.fits, a.intervals_are, accepted-placed s (taken e) z);
              gaps_lose = omega (arith, f.gaps_lose, a.gaps_lose);
              place_in = omega (arith, a.room, accepted-placed s (taken e) z);
            };
        less = omega arith;
      })

  took_refused : (n : ℕ) → refusal h.state (taken e) ≡ suc n → Took bs h e behind (onward h (e ∷ []))
  took_refused n z =
      rw (one_refused h e nz n z)
      (record { left_is = refl; inside = i; room = c; fine = λ k. absurd (none-some _ (sym k)); less = omega arith })

  took : (n : ℕ) → refusal h.state (taken e) ≡ n → Took bs h e behind (onward h (e ∷ []))
  took zero z = took_accepted z
  took (suc n) z = took_refused n z

  left_now : left bs h ≡ e ∷ behind
  left_now = ap (λ (o : Option Refusal). unless o (events_in (drop h.used bs)) []) nz ∙ events_one (drop h.used bs) e q

module _ (bs out₀ out : List ℕ) (h₀ h : ListedEvents) (g : Streaming bs out₀ out h₀ h) where
  pub stream_small : h.refusal ≡ None → (h.count ≤ 500000) × (h.used ≤ 65536) × (h.refusal ≡ None) × Small h.sums
  stream_small nz =
      let f = g.fine nz in (
        omega (arith, g.room, g.inside, f.few),
        omega (arith, g.inside, f.few),
        nz,
        (omega (arith, f.fits, f.place_in), omega (arith, f.fits, f.place_in), omega (arith, f.fits, f.gaps_lose, f.place_in)),
      )

  pub stream_end : left bs h ≡ [] → (h ≡ onward h₀ (left bs h₀)) × (out ≡ sets out₀ h₀.count (more_lines h₀ (left bs h₀)))
  stream_end e = (
    sym (ap (onward h) e ∙ onward_none h) ∙ g.whole,
    (rest_none g.text (ap (more_lines h) e ∙ more_none h)).written,
  )

  pub stream_short : (n : Option Read) → told n ≡ first (drop h.used bs) → n ≡ None → (h.refusal ≡ None) → left bs h ≡ []
  stream_short n t e nz =
      ap (λ (o : Option Refusal). unless o (events_in (drop h.used bs)) []) nz ∙ events_none (drop h.used bs) (sym t ∙ ap told e)

  pub stream_over : (h.refusal ≡ None → ⊥) → left bs h ≡ []
  stream_over k = unless_some h.refusal (events_in (drop h.used bs)) [] k

  module _ (n : Option Read) (e : Read) (nz : h.refusal ≡ None) (t : told n ≡ first (drop h.used bs)) (k : n ≡ Some e) (out' : List ℕ) (r : ListedEvents)
      (r_is : r ≡ onward h (event_of e ∷ [])) (eo : out' ≡ sets out h.count (more_lines h (event_of e ∷ []))) where
    abbrev x : Event
    x = event_of e

    at : first (drop h.used bs) ≡ x ∷ []
    at = sym t ∙ ap told k

    done : Took bs h x (behind bs h x nz g.inside g.room (g.fine nz) at) r
    done = subst⁻¹ (λ (y : ListedEvents). Took bs h x (behind bs h x nz g.inside g.room (g.fine nz) at) y) r_is (took bs h x nz g.inside g.room (g.fine nz) at (refusal h.state (taken x)) refl)

    pub stream_less : unless r.refusal (suc (length bs - r.used)) 0 < unless h.refusal (suc (length bs - h.used)) 0
    stream_less = rw nz done.less

    pub stream_again : length out' ≡ length out → Streaming bs out₀ out' h₀ r
    stream_again l =
        let rest : List Event = behind bs h x nz g.inside g.room (g.fine nz) at in
        let now = left_now bs h x nz g.inside g.room (g.fine nz) at in
        let same : onward r (left bs r) ≡ onward (onward h (x ∷ [])) (unless (onward h (x ∷ [])).refusal rest []) =
        ap (onward r) done.left_is ∙ ap (λ (y : ListedEvents). onward y (unless y.refusal rest [])) r_is in
        let text : more_lines r (left bs r) ≡ more_lines (onward h (x ∷ [])) (unless (onward h (x ∷ [])).refusal rest []) =
        ap (more_lines r) done.left_is ∙ ap (λ (y : ListedEvents). more_lines y (unless y.refusal rest [])) r_is in
        record {
          long = l ∙ g.long;
          whole = same ∙ after_one h x nz rest ∙ ap (onward h) (sym now) ∙ g.whole;
          text = rest_then {u = more_lines h (x ∷ [])} g.text
              (ap (more_lines h) now ∙ lines_after h x nz rest ∙ ap (λ (l : List ℕ). more_lines h (x ∷ []) ++ l) (sym text))
              (record { written = eo; behind = ap (λ (y : ListedEvents). y.count) r_is ∙ counted h (x ∷ []) });
          inside = done.inside;
          room = done.room;
          fine = done.fine;
        }

-- ---- the refusals of the call
module _ (s : Receiver) (v : EventSums) (n room : ℕ) where
  pub fault_free : block_refusal s v n room ≡ 0 → (v.points + v.lost ≤ s.place.0) × (v.gaps ≤ v.lost) × (n ≤ 65536) × (7 * n ≤ room)
  unfolding block_refusal sums_ok
  fault_free z =
      let a = or_zero (state_refusal s) _ z in
      let b = need-zero (sums_ok v s.place.0) 4 _ (omega arith) a.1 in
      let c = need-zero (leb n longest_block) 7 _ (omega arith) b.1 in
      let d = and_split (leb (v.points + v.lost) s.place.0) (leb v.gaps v.lost) b.0 in
      (leb-true _ _ d.0, leb-true _ _ d.1, leb-true _ _ c.0, leb-true _ _ (need-zero (leb (7 * n) room) 7 0 (omega arith) c.1).0)

  pub fault_state : block_refusal s v n room ≡ 0 → state_refusal s ≡ 0
  unfolding block_refusal
  fault_state z = next-first (state_refusal s) _ z

-- a sum that does not fit is above every place
pub sums_within : (v : EventSums) (place n m : ℕ) → n ≡ min (v.points + v.lost) 18446744073709551615 → m ≡ place → place < 4294967296
    → (leb n m && leb v.gaps v.lost) ≡ sums_ok v place
unfolding sums_ok
sums_within v place n m e f h = ap (λ (b : Bool). b && leb v.gaps v.lost) same
  where
    same : leb n m ≡ leb (v.points + v.lost) place
    same =
        by_test (leb n m)
        (λ t. let l = leb-true n m t in t ∙ sym (le-leb (v.points + v.lost) place (omega arith)))
        (λ t. let l = leb-false n m t in t ∙ sym (lt-leb (v.points + v.lost) place (omega arith)))

-- ---- the call
module _ (s : Receiver) (v : EventSums) (bs out : List ℕ) (n : Option Refusal) (en : n ≡ refusal_of (block_refusal s v (length bs) (length out))) where
  pub stream_start : s.place.0 ≤ 4294967295 → Streaming bs out out (begun s v n) (begun s v n)
  stream_start p =
      record {
        long = refl;
        whole = refl;
        text = rest_all refl refl;
        inside = omega arith;
        room = omega arith;
        fine = λ z. let f = fault_free s v (length bs) (length out) (refusal_none _ (sym en ∙ z)) in record { few = f.2; fits = f.0; gaps_lose = f.1; place_in = p };
      }

  events_are : left bs (begun s v n) ≡ block_events s v bs (length out)
  unfolding block_events
  events_are = ap (λ (o : Option Refusal). unless o (events_in bs) []) en ∙ unless_accepted (block_refusal s v (length bs) (length out)) (events_in bs) []

  pub stream_done : (h : ListedEvents) (out' : List ℕ) → (h ≡ onward (begun s v n) (left bs (begun s v n))) × (out' ≡ sets out 0 (more_lines (begun s v n) (left bs (begun s v n))))
      → (h ≡ listed_events s v bs (length out)) × (out' ≡ listed_bytes s v bs out)
  unfolding onward more_lines listed_events listed_bytes block_taken
  stream_done h out' g = (
    g.0 ∙ ap (onward (begun s v n)) events_are ∙ same-listed _ _ refl refl (zero-add _) (zero-add _) (ap (λ (o : Option Refusal). first_of o (refusal_of (first_refused s (block_events s v bs (length out))))) en ∙ refusal_next (block_refusal s v (length bs) (length out)) _),
    g.1 ∙ ap (λ es. sets out 0 (more_lines (begun s v n) es)) events_are,
  )

-- ---- the number of what refuses
none_listed : Listed 0
none_listed h = absurd (h refl)

state_listed : (s : Receiver) → Listed (state_refusal s)
unfolding state_refusal named
state_listed s = listed_next _ _ (listed_mode s.mode s.role) (listed_need _ 4 0 (λ h. refl) none_listed)

event_listed : (s : Receiver) (e : Event) → Listed (refusal s (taken e))
unfolding refusal event_refusal named
event_listed s (point p) = listed_next _ _ (state_listed s) (listed_need _ 8 _ (λ h. refl) (listed_need _ 16 0 (λ h. refl) none_listed))
event_listed s (lost n) = listed_next _ _ (state_listed s) (listed_need _ 9 _ (λ h. refl) (listed_need _ 16 0 (λ h. refl) none_listed))

first_listed : (es : List Event) (s : Receiver) → Listed (first_refused s es)
first_listed [] s = none_listed
first_listed (e ∷ es) s = listed_next _ _ (event_listed s e) (first_listed es (next s (taken e)))

block_listed : (s : Receiver) (v : EventSums) (n room : ℕ) → Listed (block_refusal s v n room)
unfolding block_refusal named
block_listed s v n room =
    listed_next _ _ (state_listed s) (listed_need _ 4 _ (λ h. refl) (listed_need _ 7 _ (λ h. refl) (listed_need _ 7 0 (λ h. refl) none_listed)))

refusal_number : (n : ℕ) → Listed n → number_in (refusal_of n) ≡ n
refusal_number zero h = refl
refusal_number (suc n) h = h (λ (z : suc n ≡ 0). omega arith)

pub stream_number : (s : Receiver) (v : EventSums) (bs : List ℕ) (room : ℕ) (h : ListedEvents) → h ≡ listed_events s v bs room
    → number_in h.refusal ≡ or_next (block_refusal s v (length bs) room) (first_refused s (block_events s v bs room))
unfolding listed_events
stream_number s v bs room h e =
    ap (λ (y : ListedEvents). number_in y.refusal) e
    ∙ refusal_number _ (listed_next _ _ (block_listed s v (length bs) room) (first_listed (block_events s v bs room) s))
