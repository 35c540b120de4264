-- A capture that is listed block by block: two blocks are one, all lines fit, and what is handed back is taken again. Assumes nothing.
use mathlib.Core.Path.{◌≡◌, refl, sym, ap, ◌∙◌}
use mathlib.Core.Bool.{true}
use mathlib.Core.List.{List, [], ◌∷◌, ◌++◌, map, map-append}
use Prim.Native.Nat.{ℕ, zero, suc, ◌+◌, ◌*◌, ◌≤◌}
use native.Mathlib.Omega.{arith}
use borrow.Author.Tests.{le-leb}
use lib.Dec.{eqb, ltb}
use lib.ListN.{length, drop, length-append, length-drop}
use Rattle.line.specs.Refusal.{accepted}
use Rattle.line.proofs.RefusalLaws.{next-first, next_rest}
use Rattle.line.proofs.Tests.{by_test, and_join}
use Rattle.octets.specs.Number.{u32}
use Rattle.receiver.specs.declared.Receiver.{Receiver}
use Rattle.receiver.specs.Receiver.{fresh_receiver, refusal, answer, next}
use Rattle.receiver.specs.Calls.{after, EachAccepted}
use Rattle.receiver.proofs.OutcomeLaws.{accepted-placed}
use Rattle.receiver.proofs.CallLaws.{states_pass, after_append}
use Rattle.store.specs.Chain.{sum_over}
use Rattle.store.specs.Layout.{Event, point, lost, point_at}
use Rattle.store.specs.Store.{events}
use Rattle.summing.specs.declared.EventSums.{EventSums}
use Rattle.summing.specs.Sums.{sums_of, plus}
use Rattle.summing.proofs.SumLaws.{parts_add, plus_assoc}
use Rattle.capture.specs.Capture.{mark_number, first, size, then, events_from, events_in}
use Rattle.listing.specs.Text.{line_text, taken, lines, chain_text, mode_in, role_in}
use Rattle.listing.specs.Stream.{until_refused, first_refused, sums_ok, block_events, block_taken, listed_events}
use Rattle.listing.specs.LastLine.{small_sums}
use Rattle.listing.specs.Blocks.{OneAfterAnother, StopsThere, NoneCut, EachGoesOn, AsListed}
use Rattle.listing.proofs.Lines.{lines_append}
use Rattle.listing.proofs.Lengths.{event_long}
use Rattle.listing.proofs.Heards.{none_refused}
use Rattle.listing.proofs.Texts.{accepted-text}
use Rattle.listing.proofs.Events.{first-whole}
use Rattle.listing.proofs.Answers.{adds}
use Rattle.listing.proofs.Streams.{fault_free, fault_state}

-- ---- two blocks
-- where none is refused all are taken, and others after them
record Passes (s : Receiver) (xs ys : List Event) : Type 0 where
  all_taken : until_refused s xs ≡ xs
  then-taken : until_refused s (xs ++ ys) ≡ xs ++ until_refused (after s (map taken xs)) ys
  then-number : first_refused s (xs ++ ys) ≡ first_refused (after s (map taken xs)) ys

passes : (xs : List Event) (s : Receiver) (ys : List Event) → first_refused s xs ≡ 0 → Passes s xs ys
passes [] s ys z = record { all_taken = refl; then-taken = refl; then-number = refl }
passes (e ∷ xs) s ys z =
    let a : refusal s (taken e) ≡ 0 = next-first (refusal s (taken e)) _ z in
    let p = passes xs (next s (taken e)) ys (next_rest (refusal s (taken e)) _ z) in
    record {
      all_taken = rw a (ap (λ (l : List Event). e ∷ l) p.all_taken);
      then-taken = rw a (ap (λ (l : List Event). e ∷ l) p.then-taken);
      then-number = rw a p.then-number;
    }

pub one_after_another : OneAfterAnother
one_after_another s v xs ys z =
    let p = passes xs s ys z in
    let t : Receiver = after s (map taken xs) in
    let us : List Event = until_refused t ys in
    let calls : map taken (until_refused s (xs ++ ys)) ≡ map taken xs ++ map taken us = ap (map taken) p.then-taken ∙ map-append taken xs us in
    record {
      all_taken = p.all_taken;
      number = p.then-number;
      text = ap (lines s) calls ∙ lines_append s (map taken xs) (map taken us);
      state = ap (after s) calls ∙ after_append s (map taken xs) (map taken us);
      sums = ap (λ (es : List Event). plus v (sums_of es)) p.then-taken ∙ ap (plus v) (parts_add xs us) ∙ sym (plus_assoc v (sums_of xs) (sums_of us));
    }

pub stops_there : StopsThere
stops_there s [] ys k = absurd (k refl)
stops_there s (e ∷ xs) ys k = go (refusal s (taken e)) refl (stops_there (next s (taken e)) xs ys)
  where
    go : (n : ℕ) → refusal s (taken e) ≡ n
        → ((first_refused (next s (taken e)) xs ≡ 0 → ⊥)
        → (until_refused (next s (taken e)) (xs ++ ys) ≡ until_refused (next s (taken e)) xs) × (first_refused (next s (taken e)) (xs ++ ys) ≡ first_refused (next s (taken e)) xs))
        → (until_refused s (e ∷ (xs ++ ys)) ≡ until_refused s (e ∷ xs)) × (first_refused s (e ∷ (xs ++ ys)) ≡ first_refused s (e ∷ xs))
    go zero z r =
        let h = r (λ q. k (rw z q)) in
        rw z (ap (λ (l : List Event). e ∷ l) h.0, h.1)
    go (suc n) z r = rw z (refl, refl)

-- ---- the text fits
lines_long : (es : List Event) (s : Receiver) → length (lines s (map taken es)) ≤ 7 * sum_over size es
lines_long [] s = omega arith
lines_long (e ∷ es) s =
    omega (arith, length-append (line_text s.place.0 (answer s (taken e))) (lines (next s (taken e)) (map taken es)), event_long s e, lines_long es (next s (taken e)))

until_less : (es : List Event) (s : Receiver) → sum_over size (until_refused s es) ≤ sum_over size es
until_less [] s = omega arith
until_less (e ∷ es) s = go (refusal s (taken e)) (until_less es (next s (taken e)))
  where
    go : (n : ℕ) → sum_over size (until_refused (next s (taken e)) es) ≤ sum_over size es
        → sum_over size (accepted n (e ∷ until_refused (next s (taken e)) es) []) ≤ size e + sum_over size es
    go zero h = omega arith
    go (suc n) h = omega arith

-- bytes begin with one event at most
one_at_most : (bs : List ℕ) (e f : Event) (l : List Event) → first bs ≡ e ∷ f ∷ l → ⊥
unfolding first
one_at_most bs e f l q =
    by_test (ltb (length bs) 4)
    (λ t. two [] (rw t at q) (omega arith))
    (λ t. by_test (eqb (u32 bs 0) mark_number)
    (λ m. by_test (ltb (length bs) 8)
    (λ u. two [] (rw (t, m, u) at q) (omega arith))
    (λ u. two (lost (u32 bs 4) ∷ []) (rw (t, m, u) at q) (omega arith)))
    (λ m. two (point (point_at bs) ∷ []) (rw (t, m) at q) (omega arith)))
  where
    two : (k : List Event) → k ≡ e ∷ f ∷ l → length k ≤ 1 → ⊥
    two k r h = omega (arith, ap length r)

events_within : (k : ℕ) (bs : List ℕ) → sum_over size (events_from k bs) ≤ length bs
events_within zero bs = omega arith
events_within (suc k) bs = go (first bs) refl (λ e. events_within k (drop (size e) bs))
  where
    go : (l : List Event) → first bs ≡ l → ((e : Event) → sum_over size (events_from k (drop (size e) bs)) ≤ length (drop (size e) bs))
        → sum_over size (then l (λ e. e ∷ events_from k (drop (size e) bs))) ≤ length bs
    go [] q r = omega arith
    go (e ∷ []) q r = omega (arith, first-whole bs e q, r e, length-drop (size e) bs)
    go (e ∷ f ∷ l) q r = absurd (one_at_most bs e f l q)

pub none_cut : NoneCut
unfolding listed_events block_taken block_events events_in
none_cut s v bs room z =
    let es : List Event = block_taken s v bs room in
    let f = fault_free s v (length bs) room z in
    let taken_in : sum_over size (until_refused s (events_from (length bs) bs)) ≤ length bs = omega (arith, until_less (events_from (length bs) bs) s, events_within (length bs) bs) in
    rw z (omega (arith, lines_long (until_refused s (events_from (length bs) bs)) s, f.3))

-- ---- what is handed back
abbrev Fits : Receiver → EventSums → Type 0
Fits s v = (v.points + v.lost ≤ s.place.0) × (v.gaps ≤ v.lost) × (s.place.0 ≤ 4294967295)

fits_on : (es : List Event) (s : Receiver) (v : EventSums) → Fits s v → Fits (after s (map taken (until_refused s es))) (plus v (sums_of (until_refused s es)))
fits_on [] s v f = (omega (arith, f.0), omega (arith, f.1), f.2)
fits_on (e ∷ es) s v f = go (refusal s (taken e)) refl (fits_on es (next s (taken e)) (plus v (sums_of (e ∷ []))))
  where
    go : (n : ℕ) → refusal s (taken e) ≡ n
        → (Fits (next s (taken e)) (plus v (sums_of (e ∷ []))) → Fits (after (next s (taken e)) (map taken (until_refused (next s (taken e)) es))) (plus (plus v (sums_of (e ∷ []))) (sums_of (until_refused (next s (taken e)) es))))
        → Fits (after s (map taken (until_refused s (e ∷ es)))) (plus v (sums_of (until_refused s (e ∷ es))))
    go zero z r =
        let a = adds s e z in
        let p = accepted-placed s (taken e) z in
        let h = r (omega (arith, f.0, a.intervals_are), omega (arith, f.1, a.gaps_lose), omega (arith, a.room)) in
        rw z (omega (arith, h.0), omega (arith, h.1), h.2)
    go (suc n) z r = rw z (omega (arith, f.0), omega (arith, f.1), f.2)

module _ (s : Receiver) (v : EventSums) (f : Fits s v) where
  fits_ok : sums_ok v s.place.0 ≡ true
  unfolding sums_ok
  fits_ok = and_join _ _ (le-leb (v.points + v.lost) s.place.0 f.0) (le-leb v.gaps v.lost f.1)

  fits_small : small_sums v ≡ true
  unfolding small_sums
  fits_small =
      and_join _ _
      (and_join _ _ (le-leb v.points 4294967295 (omega (arith, f.0, f.2))) (le-leb v.lost 4294967295 (omega (arith, f.0, f.2))))
      (le-leb v.gaps 4294967295 (omega (arith, f.0, f.1, f.2)))

pub each_goes_on : EachGoesOn
unfolding listed_events block_taken
each_goes_on s v bs room p z =
    let f = fault_free s v (length bs) room z in
    let es : List Event = block_events s v bs room in
    let h = fits_on es s v (f.0, f.1, p) in
    record {
      state_passes = states_pass.after_passes s (map taken (until_refused s es)) (fault_state s v (length bs) room z);
      sums_pass = fits_ok (after s (map taken (until_refused s es))) (plus v (sums_of (until_refused s es))) h;
      sums_small = fits_small (after s (map taken (until_refused s es))) (plus v (sums_of (until_refused s es))) h;
    }

-- ---- a store's events
all_heard : (es : List Event) (s : Receiver) → EachAccepted s (map taken es) → until_refused s es ≡ es
all_heard [] s a = refl
all_heard (e ∷ es) s a = rw a.0 (ap (λ (l : List Event). e ∷ l) (all_heard es (next s (taken e)) a.1))

pub as_listed : AsListed
unfolding chain_text
as_listed s b acc = rw (all_heard (events s) (fresh_receiver (mode_in s) (role_in s)) (none_refused s b acc)) (accepted-text s acc)
