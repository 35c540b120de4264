-- The first bytes of a store, up to its chain's greatest index, are the same track. Assumes nothing.
use mathlib.Core.Path.{◌≡◌, refl, sym, ap, ◌∙◌, subst}
use mathlib.Core.List.{List, [], ◌∷◌}
use Prim.Native.Nat.{ℕ, zero, suc, ◌+◌, ◌*◌, ◌≤◌, ◌<◌, max}
use native.Mathlib.Omega.{arith}
use lib.ListN.{length, get_or, take, drop}
use lib.Seq.{take-take, length-take-le}
use Rattle.line.specs.Table.{All}
use Rattle.line.proofs.RefusalLaws.{some_number, left_done, left_kept}
use Rattle.octets.specs.Number.{u16, u32}
use Rattle.store.specs.Chain.{greatest}
use Rattle.store.specs.Layout.{count, rec, link_in, next, record_ok, span_of, events_of}
use Rattle.store.specs.Store.{chain, events, total, head_ok, refusal}
use Rattle.store.specs.Walk.{Viewed}
use Rattle.store.specs.declared.View.{View}
use Rattle.std.specs.Prelude.{Ok, Err}
use Rattle.line.specs.declared.refusal.Refusal.{Refusal}
use Rattle.line.specs.Refusal.{number}
use Rattle.store.proofs.Chains.{Run, all_map, all_zip, below-greatest, gather-same, sum_same}
use Rattle.store.proofs.Sounds.{Sound, sound_chain, sound_accepted, accepted_sound, sound_greatest}
use Rattle.track_capture.specs.Keeping.{kept_bytes, Keeps}
use Rattle.track_capture.specs.Laws.{SameTrack, Cut}

-- ---- the call
pub keeps_refused : (s : List ℕ) (e : Refusal) → number e ≡ refusal s → Keeps s (Err e)
keeps_refused s e h = record { number = h; counts = left_kept (refusal s) (kept_bytes s ∷ []) [] (λ z. some_number e (h ∙ z)) }

pub keeps_bytes : (s : List ℕ) (v : View) (n : ℕ) → Viewed s v → n ≡ max 64 (32 * (v.greatest + 1)) → Keeps s (Ok n)
unfolding kept_bytes
keeps_bytes s v n w e =
    record {
      number = sym w.accepted;
      counts = ap (λ (k : ℕ). k ∷ []) (e ∙ ap (λ (g : ℕ). max 64 (32 * (g + 1))) w.most) ∙ left_done (refusal s) (max 64 (32 * (greatest (chain s) + 1)) ∷ []) [] w.accepted;
    }

-- ---- the statement
-- a part of the first n elements is that part of the whole
part_take : {A : Type 0} (a m n : ℕ) (l : List A) → a + m ≤ n → take m (drop a (take n l)) ≡ take m (drop a l)
part_take zero m n l h = take-take m n l (omega arith)
part_take (suc a) m zero l h = absurd (omega arith)
part_take (suc a) m (suc n) [] h = refl
part_take (suc a) m (suc n) (x ∷ l) h = part_take a m n l (omega arith)

-- links that agree along a chain
run_same : (f f' : ℕ → ℕ) (i : ℕ) (c : List ℕ) → Run f i c → All (λ x. f' x ≡ f x) c → Run f' i c
run_same f f' i [] r a = r
run_same f f' i (x ∷ c) r a = (r.0, r.1, run_same f f' (f' x) c (subst (λ (j : ℕ). Run f j c) (sym a.0) r.2) a.1)

module _ (s : List ℕ) (n m : ℕ) (o : Sound s (chain s)) (e : n ≡ 32 * m) (least : 2 ≤ m) (most : m ≤ count s) (over : All (λ x. x < m) (chain s)) where
  abbrev cut : List ℕ
  cut = take n s

  cut_long : length (take n s) ≡ n
  cut_long = length-take-le n s (omega (arith, o.whole))

  cut-count : count (take n s) ≡ m
  cut-count = omega (arith, cut_long)

  cut-rec : (i : ℕ) → i < m → rec (take n s) i ≡ rec s i
  cut-rec i h = part_take (32 * i) 32 n s (omega arith)

  cut-next : (i : ℕ) → i < m → next (take n s) i ≡ next s i
  unfolding next
  cut-next i h = ap (λ (r : List ℕ). u16 r (link_in i)) (cut-rec i h)

  cut-total : total (take n s) ≡ total s
  unfolding total
  cut-total = ap (λ (r : List ℕ). u32 r 8) (cut-rec 0 (omega arith))

  cut_sound : Sound (take n s) (chain s)
  cut_sound =
      record {
        whole = omega (arith, cut_long);
        least = omega (arith, cut-count);
        most = omega (arith, cut-count, o.most);
        head = ap head_ok (cut-rec 0 (omega arith)) ∙ o.head;
        run = run_same (next s) (next (take n s)) (next (take n s) 0) (chain s) (subst (λ (j : ℕ). Run (next s) j (chain s)) (sym (cut-next 0 (omega arith))) o.run) (all_map (chain s) cut-next over);
        within = all_map (chain s) (λ x h. omega (arith, cut-count)) over;
        records = all_zip (chain s) (λ x h ok. ap record_ok (cut-rec x h) ∙ ok) over o.records;
        sum = cut-total ∙ o.sum ∙ sym (sum_same (λ i. span_of (rec s i)) (λ i. span_of (rec (take n s) i)) (chain s) (all_map (chain s) (λ x h. ap span_of (cut-rec x h)) over));
      }

  cut-events : events (take n s) ≡ events s
  unfolding events
  cut-events =
      rw (sound_chain (take n s) (chain s) cut_sound)
      (gather-same (λ i. events_of (rec s i)) (λ i. events_of (rec (take n s) i)) (chain s) (all_map (chain s) (λ x h. ap events_of (cut-rec x h)) over))

  cut-same : SameTrack s (take n s)
  cut-same =
      let r = cut-rec 0 (omega arith) in
      record {
        accepted = sound_accepted (take n s) (chain s) cut_sound;
        mode = ap (λ (x : List ℕ). get_or x 4 0) r;
        role = ap (λ (x : List ℕ). get_or x 5 0) r;
        total_is = cut-total;
        events_are = cut-events;
      }

-- as many records as are kept
kept_records : (g : ℕ) → max 64 (32 * (g + 1)) ≡ 32 * max 2 (g + 1)
kept_records g = omega arith

pub cut_law : Cut
unfolding kept_bytes
cut_law s acc =
    let o = accepted_sound s acc in
    let g : ℕ = greatest (chain s) in
    let n : ℕ = max 64 (32 * (g + 1)) in
    let m : ℕ = max 2 (g + 1) in
    let e : n ≡ 32 * m = kept_records g in
    let l : 2 ≤ m = omega arith in
    let k : m ≤ count s = omega (arith, sound_greatest s o, o.least) in
    let a : All (λ x. x < m) (chain s) = all_map (chain s) (λ x h. omega arith) (below-greatest (chain s)) in
    (cut_long s n m o e l k a, cut-same s n m o e l k a)
