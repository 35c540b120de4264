-- The lines of events, written one after the other. Assumes nothing.
use mathlib.Core.Path.{◌≡◌, refl, sym, ap, ◌∙◌, subst, subst⁻¹}
use mathlib.Core.Bool.{true, ◌&&◌}
use mathlib.Core.List.{List, [], ◌∷◌, ◌++◌, map, map-append, append_assoc, append-nil}
use Prim.Native.Nat.{ℕ, ◌+◌, ◌≤◌}
use native.Mathlib.Omega.{arith}
use borrow.Author.Tests.{eq-eqb, leb-true}
use lib.Dec.{leb}
use lib.ListN.{length, drop}
use Rattle.octets.specs.Number.{u32}
use Rattle.line.proofs.Tests.{and_split}
use Rattle.receiver.specs.declared.Intervals.{Intervals}
use Rattle.receiver.specs.declared.Receiver.{Receiver}
use Rattle.receiver.specs.declared.Outcome.{Outcome}
use Rattle.receiver.specs.declared.Outcome.TheVariants.{Gap}
use Rattle.std.specs.Prelude.{Result, Ok}
use Rattle.line.specs.declared.refusal.Refusal.{Refusal}
use Rattle.receiver.specs.Receiver.{event_answer, answer, next}
use Rattle.receiver.specs.Receiver.{Event as Call, gap, lost as lostFor, refusal as refused}
use Rattle.receiver.specs.Calls.{after, EachAccepted}
use Rattle.receiver.specs.Outcome.{state_of, Told, gap_outcome, event_outcome, outcome}
use Rattle.store.specs.Layout.{kind, held, is_points, points, points_ok, record_ok, events_of}
use Rattle.store.specs.Store.{events, refusal}
use Rattle.line.specs.Table.{All}
use Rattle.store.specs.Records.{records, events_in}
use Rattle.store.proofs.Readings.{of_points, of_lost}
use Rattle.store.proofs.RecordRuns.{records_fine, records_events}
use Rattle.receiver.proofs.CallLaws.{each_split}
use Rattle.listing.specs.declared.Progress.{Progress}
use Rattle.listing.specs.Text.{taken, line_text, lines}
use Rattle.listing.specs.Wrote.{Wrote, Went}
use Rattle.listing.proofs.Writes.{wrote_as, Rest, rest_all, rest_then, rest_none}

-- ---- some calls, and then others
pub lines_append : (s : Receiver) (xs ys : List Call) → lines s (xs ++ ys) ≡ lines s xs ++ lines (after s xs) ys
lines_append s [] ys = refl
lines_append s (e ∷ xs) ys =
    ap (λ (l : List ℕ). line_text s.place.0 (answer s e) ++ l) (lines_append (next s e) xs ys)
    ∙ sym (append_assoc (line_text s.place.0 (answer s e)) _ _)

-- ---- the events of a record
pub record Points (r : List ℕ) : Type 0 where
  pub some : 1 ≤ held r
  pub few : held r ≤ 7
  pub fine : points_ok (drop 4 r) (held r) ≡ true

pub points_record : (r : List ℕ) → record_ok r ≡ true → is_points r ≡ true → Points r
unfolding record_ok
points_record r ok e =
    let z = and_split (leb (held r) 7 && leb 1 (held r)) (points_ok (drop 4 r) (held r)) (rw e at ok) in
    let y = and_split (leb (held r) 7) (leb 1 (held r)) z.0 in
    record { some = leb-true 1 (held r) y.1; few = leb-true (held r) 7 y.0; fine = z.1 }

module _ (r : List ℕ) (n : ℕ) (s : Receiver) (free : EachAccepted s (map taken (events_of r))) where
  pub points_free : record_ok r ≡ true → kind r ≡ 1 → n ≡ held r → (1 ≤ n) × (n ≤ 7) × EachAccepted s (map taken (points (drop 4 r) n))
  points_free ok k e = let h = points_record r ok (eq-eqb (kind r) 1 k) in rw e (h.some, h.few, rw (of_points r k) at free)

  pub went_points : {out out' : List ℕ} {p : ℕ} {q : Progress} → kind r ≡ 1 → n ≡ held r → Went out p s (map taken (points (drop 4 r) n)) out' q
      → Went out p s (map taken (events_of r)) out' q
  went_points {out} {out'} {p} {q} k e w = rw (of_points r k, ← e) w

  -- a lost count
  module _ (k : kind r ≡ 1 → ⊥) (e : n ≡ u32 r 4) where
    lost_free : refused s (gap n) ≡ 0
    lost_free = rw e (rw (of_lost r k) at free).0

    pub is_gap : outcome s (gap n) ≡ Ok (gap_outcome s n)
    unfolding outcome event_outcome
    is_gap = rw lost_free

    pub went_lost : {out out' : List ℕ} {p q : ℕ} (t : Receiver) (o : Result Outcome Refusal) (i : Intervals) → Told s (gap n) o → o ≡ Ok (Gap i t)
        → Wrote out p (line_text s.place.0 (lostFor n)) out' q → Went out p s (map taken (events_of r)) out' (record { at = q; state = t })
    unfolding answer event_answer
    went_lost {out} {out'} {p} {q} t o i h u w =
        let a : answer s (gap n) ≡ lostFor n = rw lost_free in
        rw (of_lost r k, ← e)
        (record {
          wrote = wrote_as (ap (line_text s.place.0) (sym a) ∙ sym (append-nil (line_text s.place.0 (answer s (gap n))))) w;
          state = sym (ap (state_of s) u) ∙ h.state_is;
        })

-- ---- the chain, where some of its records are left
pub record Listing (s out₀ out : List ℕ) (p₀ : ℕ) (t₀ : Receiver) (p : Progress) (left : List (List ℕ)) : Type 0 where
  pub fine : All (λ r. record_ok r ≡ true) left
  pub free : EachAccepted p.state (map taken (events_in left))
  pub long : length out ≡ length out₀
  pub rest : Rest out₀ out p₀ p.at (lines t₀ (map taken (events s))) (lines p.state (map taken (events_in left)))

pub listing_start : (s out : List ℕ) (p : ℕ) (t : Receiver) (left : List (List ℕ)) → refusal s ≡ 0 → EachAccepted t (map taken (events s)) → left ≡ records s
    → Listing s out out p t (record { at = p; state = t }) left
listing_start s out p t left acc h e =
    let all : map taken (events_in left) ≡ map taken (events s) = ap (map taken) (ap events_in e ∙ records_events s) in
    record {
      fine = subst⁻¹ (All (λ r. record_ok r ≡ true)) e (records_fine s acc);
      free = subst⁻¹ (EachAccepted t) all h;
      long = refl;
      rest = rest_all refl (ap (lines t) all);
    }

module _ (s out₀ out : List ℕ) (p₀ : ℕ) (t₀ : Receiver) (p : Progress) (left : List (List ℕ)) (g : Listing s out₀ out p₀ t₀ p left) where
  pub listing_end : left ≡ [] → Wrote out₀ p₀ (lines t₀ (map taken (events s))) out p.at
  listing_end e = rest_none g.rest (ap (λ (rs : List (List ℕ)). lines p.state (map taken (events_in rs))) e)

  module _ (r : List ℕ) (left' : List (List ℕ)) (e : left ≡ r ∷ left') where
    abbrev here : List Call
    here = map taken (events_of r)

    abbrev later : List Call
    later = map taken (events_in left')

    now_here : map taken (events_in left) ≡ here ++ later
    now_here = ap (λ (rs : List (List ℕ)). map taken (events_in rs)) e ∙ map-append taken (events_of r) (events_in left')

    both_free : EachAccepted p.state here × EachAccepted (after p.state here) later
    both_free = each_split p.state here later (subst (EachAccepted p.state) now_here g.free)

    all_fine : All (λ l. record_ok l ≡ true) (r ∷ left')
    all_fine = subst (All (λ l. record_ok l ≡ true)) e g.fine

    pub listing_here : (m : ℕ) → p₀ + length (lines t₀ (map taken (events s))) ≤ m → (record_ok r ≡ true) × EachAccepted p.state here × (p.at ≤ m)
    listing_here m h = (all_fine.0, both_free.0, omega (arith, g.rest.behind))

    pub listing_step : (out' : List ℕ) (p' : Progress) → length out' ≡ length out → Went out p.at p.state here out' p' → Listing s out₀ out' p₀ t₀ p' left'
    listing_step out' p' l w =
        record {
          fine = all_fine.1;
          free = subst⁻¹ (λ (t : Receiver). EachAccepted t later) w.state both_free.1;
          long = l ∙ g.long;
          rest = rest_then g.rest
              (ap (lines p.state) now_here ∙ lines_append p.state here later ∙ ap (λ (t : Receiver). lines p.state here ++ lines t later) (sym w.state))
              w.wrote;
        }
