-- The sums of a chain, record by record. Assumes nothing.
use mathlib.Core.Path.{◌≡◌, sym, ap, ◌∙◌}
use mathlib.Core.List.{List, [], ◌∷◌}
use Prim.Native.Nat.{ℕ, suc, ◌+◌, ◌-◌, ◌≤◌, ◌<◌}
use native.Mathlib.Omega.{arith}
use lib.ListN.{length, get_or}
use Rattle.std.specs.Prelude.{Ok, Err}
use Rattle.line.specs.declared.refusal.Refusal.{Refusal}
use Rattle.line.specs.Refusal.{number}
use Rattle.line.proofs.RefusalLaws.{some_number, left_done, left_kept}
use Rattle.store.specs.Layout.{events_of}
use Rattle.store.specs.Store.{events, total, refusal}
use Rattle.store.specs.Records.{records, events_in}
use Rattle.store.proofs.RecordRuns.{records_long, records_events}
use Rattle.summing.specs.declared.EventSums.{EventSums}
use Rattle.summing.specs.Sums.{sums_of, plus, Small, Tells}
use Rattle.summing.specs.Room.{OfRecords}
use Rattle.summing.proofs.SumLaws.{parts_add, plus_assoc, plus_none, none_plus, plus_is_total}

-- the sums of the records so far, where some are left
pub record Summing (s : List ℕ) (v : EventSums) (rest : List (List ℕ)) : Type 0 where
  pub few : length rest ≤ 2048
  pub most : OfRecords (2048 - length rest) v
  pub summed : plus v (sums_of (events_in rest)) ≡ sums_of (events s)

pub summing_start : (s : List ℕ) (v : EventSums) (rest : List (List ℕ)) → refusal s ≡ 0 → v ≡ sums_of [] → rest ≡ records s → Summing s v rest
summing_start s v rest acc z e =
    rw z
    (record {
      few = omega (arith, ap length e, records_long s acc);
      most = record { points_in_lem = omega arith; lost_in_lem = omega arith; gaps_in_lem = omega arith };
      summed = none_plus (sums_of (events_in rest)) ∙ ap sums_of (ap events_in e ∙ records_events s);
    })

pub summing_room : (s : List ℕ) (v : EventSums) (rest : List (List ℕ)) → Summing s v rest → OfRecords 2048 v
summing_room s v rest g =
    record { points_in_lem = omega (arith, g.most.points_in_lem); lost_in_lem = omega (arith, g.most.lost_in_lem); gaps_in_lem = omega (arith, g.most.gaps_in_lem) }

pub summing_step : (s : List ℕ) (v w v' : EventSums) (rest : List (List ℕ)) (r : List ℕ) (rest' : List (List ℕ)) → Summing s v rest → rest ≡ r ∷ rest'
    → w ≡ sums_of (events_of r) → OfRecords 1 w → v' ≡ plus v w → Summing s v' rest'
summing_step s v w v' rest r rest' g el ew h ev =
    let l : length rest ≡ suc (length rest') = ap length el in
    let e : sums_of (events_in rest) ≡ plus w (sums_of (events_in rest')) =
    ap (λ (rs : List (List ℕ)). sums_of (events_in rs)) el ∙ parts_add (events_of r) (events_in rest') ∙ ap (λ (x : EventSums). plus x (sums_of (events_in rest'))) (sym ew) in
    rw ev
    (record {
      few = omega (arith, l, g.few);
      most = record {
        points_in_lem = omega (arith, l, g.few, g.most.points_in_lem, h.points_in_lem);
        lost_in_lem = omega (arith, l, g.few, g.most.lost_in_lem, h.lost_in_lem);
        gaps_in_lem = omega (arith, l, g.few, g.most.gaps_in_lem, h.gaps_in_lem);
      };
      summed = plus_assoc v w (sums_of (events_in rest')) ∙ ap (plus v) (sym e) ∙ g.summed;
    })

pub summing_end : (s : List ℕ) (v : EventSums) (rest : List (List ℕ)) → Summing s v rest → rest ≡ [] → refusal s ≡ 0 → total s < 4294967296 → (v ≡ sums_of (events s)) × Small v
summing_end s v rest g e acc t =
    let q : v ≡ sums_of (events s) = sym (ap (λ (rs : List (List ℕ)). plus v (sums_of (events_in rs))) e ∙ plus_none v) ∙ g.summed in
    let p : v.points + v.lost ≡ total s = ap (λ (x : EventSums). x.points + x.lost) q ∙ (plus_is_total s acc).0 in
    (q, (omega arith, omega arith, omega (arith, (summing_room s v rest g).gaps_in_lem)))

-- ---- the call
pub sums_refused : (s : List ℕ) (e : Refusal) → number e ≡ refusal s → Tells s (Err e)
sums_refused s e h = record { number = h; sums = left_kept (refusal s) (sums_of (events s) ∷ []) [] (λ z. some_number e (h ∙ z)); small = tt }

pub sums_given : (s : List ℕ) (v : EventSums) → refusal s ≡ 0 → v ≡ sums_of (events s) → Small v → Tells s (Ok v)
sums_given s v acc e h =
    record { number = sym acc; sums = ap (λ (x : EventSums). x ∷ []) e ∙ left_done (refusal s) (sums_of (events s) ∷ []) [] acc; small = (h, tt) }

-- what is told of a store that is not refused
pub told_sums : (s : List ℕ) (v : EventSums) → Tells s (Ok v) → (refusal s ≡ 0) × (v ≡ sums_of (events s)) × Small v
told_sums s v w =
    let acc : refusal s ≡ 0 = sym w.number in
    (acc, ap (λ l. get_or l 0 v) (w.sums ∙ sym (left_done (refusal s) (sums_of (events s) ∷ []) [] acc)), w.small.0)
