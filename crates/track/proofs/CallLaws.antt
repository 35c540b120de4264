-- Lists of appends to an accepted store: reading gives the events held at the start and those of the accepted appends. Assumes nothing.
use mathlib.Core.Path.{◌≡◌, refl, sym, ap, ◌∙◌, subst}
use mathlib.Core.Bool.{true}
use mathlib.Core.List.{List, [], ◌∷◌, ◌++◌, append_assoc, append-nil}
use Prim.Native.Nat.{ℕ, ◌+◌, ◌*◌}
use native.Mathlib.Omega.{arith}
use borrow.Author.Tests.{eqb-true, eqb-false, le-leb}
use lib.Dec.{eqb, leb}
use lib.ListN.{length}
use Rattle.line.proofs.Tests.{by_test}
use Rattle.line.proofs.RefusalLaws.{left_kept}
use Rattle.store.specs.Layout.{Event, point, lost, intervals, rec}
use Rattle.store.specs.Reads.{read_number, read_count, read_result}
use Rattle.store.proofs.Sounds.{accepted_sound}
use Rattle.store.proofs.Spans.{chain_span}
use Rattle.store.specs.Store.{chain, events, refusal}
use Rattle.track.specs.Append.{make_result}
use Rattle.track.proofs.Makes.{make_law}
use Rattle.track.specs.Calls.{call_number, call_result, after, taken, Holds, AppendsRead, MadeEmpty, MadeRead, TotalGrows, TotalSums}
use Rattle.track.proofs.Appends.{Appended, lost_law}
use Rattle.track.proofs.Answers.{lost_free, lost_done, lost_kept, point_done, point_kept}
use Rattle.track.proofs.Places.{point_appended_lem}

-- an accepted append: the store is accepted, its events are the old ones and the new, its total has grown, its size is kept
pub append_law : (s : List ℕ) (e : Event) → call_number s e ≡ 0 → Appended s (call_result s e) e (intervals e)
append_law s (point p) z = subst (λ (t : List ℕ). Appended s t (point p) 1) (point_done s p z) (point_appended_lem s p z)
append_law s (lost n) z =
    let f = lost_free s n z in
    subst (λ (t : List ℕ). Appended s t (lost n) n) (lost_done s n z) (lost_law s n f.accepted f.some (omega (arith, f.fits)) f.room)

-- a refused one leaves the store
pub refused_law : (s : List ℕ) (e : Event) → (call_number s e ≡ 0 → ⊥) → call_result s e ≡ s
refused_law s (point p) h = sym (point_kept s p h)
refused_law s (lost n) h = sym (lost_kept s n h)

-- any list of appends, refused ones among them
pub record Run (s s' : List ℕ) (es : List Event) : Type 0 where
  pub accepted_yet : refusal s' ≡ 0
  pub events_are : events s' ≡ events s ++ es
  pub long : length s' ≡ length s

pub calls_law : (s : List ℕ) (es : List Event) → refusal s ≡ 0 → Run s (after s es) (taken s es)
calls_law s [] acc = record { accepted_yet = acc; events_are = sym (append-nil (events s)); long = refl }
calls_law s (e ∷ es) acc =
    by_test (eqb (call_number s e) 0)
    (λ t. let z = eqb-true (call_number s e) 0 t in
    let d = append_law s e z in
    let r = calls_law (call_result s e) es d.accepted in
    rw z (record {
      accepted_yet = r.accepted_yet;
      events_are = r.events_are ∙ ap (λ (x : List Event). x ++ taken (call_result s e) es) d.events_are ∙ append_assoc (events s) (e ∷ []) (taken (call_result s e) es);
      long = r.long ∙ d.long;
    }))
    (λ t. let h = eqb-false (call_number s e) 0 t in
    rw (← left_kept (call_number s e) (e ∷ taken (call_result s e) es) (taken (call_result s e) es) h, refused_law s e h) (calls_law s es acc))

-- reading an accepted store into lent numbers that suffice
held_read : (s : List ℕ) (es : List Event) → refusal s ≡ 0 → events s ≡ es → Holds s es
unfolding read_number read_count read_result
held_read s es acc e =
    record {
      accepted_yet = acc;
      events_are = e;
      read = λ out offset h.
          let p : leb offset (length out) ≡ true = le-leb offset (length out) (omega arith) in
          let q : leb (offset + 3 * length es) (length out) ≡ true = le-leb (offset + 3 * length es) (length out) h in
          (rw (e, p, acc, q), rw (e, p, acc, q), rw (e, p, acc, q));
    }

pub appends_read : AppendsRead
appends_read s es acc = let r = calls_law s es acc in held_read (after s es) (events s ++ taken s es) r.accepted_yet r.events_are

pub made_empty : MadeEmpty
made_empty s mode role e = let m = make_law s mode role e in held_read (make_result s mode role) [] m.accepted m.no_events

pub made_read : MadeRead
made_read s mode role es e =
    let t : List ℕ = make_result s mode role in
    let m = make_law s mode role e in
    subst (Holds (after t es)) (ap (λ (l : List Event). l ++ taken t es) m.no_events) (appends_read t es m.accepted)

-- ---- the total
pub total_grows : TotalGrows
total_grows s e z = (append_law s e z).total_is

pub total_sums : TotalSums
unfolding events
total_sums s acc = (accepted_sound s acc).sum ∙ sym (chain_span (rec s) (chain s))
