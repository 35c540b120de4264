-- The capture of a store's events, written record by record. Assumes nothing.
use mathlib.Core.Path.{◌≡◌, refl, sym, ap, ap₂, ◌∙◌}
use mathlib.Core.Bool.{true, ◌&&◌}
use mathlib.Core.List.{List, [], ◌∷◌, ◌++◌, append_assoc}
use Prim.Native.Nat.{ℕ, zero, suc, ◌+◌, ◌*◌, ◌-◌, ◌≤◌, ◌<◌}
use native.Mathlib.Omega.{arith}
use native.Mathlib.Nat.{add-zero, sub-zero}
use borrow.Author.Tests.{ltb-false, le-leb, leb-true}
use lib.Dec.{ltb, leb}
use lib.ListN.{length, drop, length-append}
use lib.Seq.{sets, length-sets}
use Rattle.line.proofs.Tests.{by_test, and_split}
use Rattle.line.proofs.Sets.{sets_then}
use Rattle.line.proofs.RefusalLaws.{some_number, left_kept}
use Rattle.line.specs.Table.{All}
use Rattle.octets.specs.Number.{u16, u32, le16, le32, pattern, signed}
use Rattle.store.specs.Chain.{sum_over, gather}
use Rattle.store.specs.Layout.{Event, point, lost, count, rec, next, kind, held, is_points, points, points_ok, record_ok, events_of}
use Rattle.store.specs.Store.{chain, events, refusal}
use Rattle.store.proofs.Chains.{run_short, sum_append}
use Rattle.store.proofs.Sounds.{accepted_sound}
use Rattle.store.specs.Records.{records, events_in}
use Rattle.store.proofs.RecordRuns.{records_long, records_events}
use Rattle.store.proofs.Readings.{points-next, of_points, of_lost}
use Rattle.capture.specs.Capture.{lost_mark, event_bytes, captured, size}
use Rattle.std.specs.Prelude.{Ok, Err}
use Rattle.line.specs.declared.refusal.Refusal.{Refusal}
use Rattle.line.specs.Refusal.{number, need}
use Rattle.track.proofs.Answers.{need_first}
use Rattle.track_capture.specs.Capturing.{longest, capture_number, capture_result, Gives, Wrote}
use Rattle.track_capture.specs.Laws.{NoneLonger}

-- ---- the bytes of events
captured_append : (xs ys : List Event) → captured (xs ++ ys) ≡ captured xs ++ captured ys
captured_append [] ys = refl
captured_append (e ∷ xs) ys =
    ap (λ (l : List ℕ). event_bytes e ++ l) (captured_append xs ys) ∙ sym (append_assoc (event_bytes e) (captured xs) (captured ys))

bytes_long : (e : Event) → length (event_bytes e) ≡ size e
bytes_long (point p) = refl
bytes_long (lost n) = refl

captured_long : (es : List Event) → length (captured es) ≡ sum_over size es
captured_long [] = refl
captured_long (e ∷ es) = omega (arith, length-append (event_bytes e) (captured es), bytes_long e, captured_long es)

points-size : (bs : List ℕ) (n : ℕ) → sum_over size (points bs n) ≡ 4 * n
points-size bs zero = refl
points-size bs (suc n) = omega (arith, points-size (drop 4 bs) n)

-- some events and then the rest
captured-then : (out out' : List ℕ) (p q : ℕ) (xs ys : List Event) → out' ≡ sets out p (captured xs) → q ≡ p + sum_over size xs
    → sets out' q (captured ys) ≡ sets out p (captured (xs ++ ys))
captured-then out out' p q xs ys e f =
    ap (λ (o : List ℕ). sets o q (captured ys)) e
    ∙ sets_then (captured xs) (captured ys) out p q (omega (arith, captured_long xs, f))
    ∙ ap (sets out p) (sym (captured_append xs ys))

-- ---- the points of a record
pattern-signed : (u : ℕ) → u < 65536 → pattern (signed u) ≡ u
unfolding pattern signed
pattern-signed u h =
    by_test (ltb u 32768)
    (λ t. rw t)
    (λ t. rw t (let l = ltb-false u 32768 t in omega arith))

abbrev pub points_left : List ℕ → ℕ → ℕ → List ℕ
points_left r n k = captured (points (drop (4 + 4 * k) r) (n - k))

pub points-start : (r : List ℕ) (n : ℕ) (out : List ℕ) (p : ℕ) → sets out (p + 4 * 0) (points_left r n 0) ≡ sets out p (captured (points (drop 4 r) n))
points-start r n out p = ap₂ (λ (x y : ℕ). sets out x (captured (points (drop 4 r) y))) (add-zero p) (sub-zero n)

pub points-step : (r : List ℕ) (n : ℕ) (out₀ out o₁ o₂ : List ℕ) (p k x y : ℕ) → k < n
    → x ≡ u16 r (4 + 4 * k) → x < 65536 → y ≡ u16 r (4 + 4 * k + 2) → y < 65536
    → o₁ ≡ sets out (p + 4 * k) (le16 x) → o₂ ≡ sets o₁ (p + 4 * k + 2) (le16 y)
    → sets out (p + 4 * k) (points_left r n k) ≡ sets out₀ p (captured (points (drop 4 r) n))
    → sets o₂ (p + 4 * (k + 1)) (points_left r n (k + 1)) ≡ sets out₀ p (captured (points (drop 4 r) n))
points-step r n out₀ out o₁ o₂ p k x y h ex bx ey by e₁ e₂ g =
    let one : Event = point (record { re = signed (u16 r (4 + 4 * k)); im = signed (u16 r (4 + 4 * k + 2)) }) in
    let px : pattern (signed (u16 r (4 + 4 * k))) ≡ x = pattern-signed (u16 r (4 + 4 * k)) (omega arith) ∙ sym ex in
    let py : pattern (signed (u16 r (4 + 4 * k + 2))) ≡ y = pattern-signed (u16 r (4 + 4 * k + 2)) (omega arith) ∙ sym ey in
    captured-then out o₂ (p + 4 * k) (p + 4 * (k + 1)) (one ∷ []) (points (drop (4 + 4 * (k + 1)) r) (n - (k + 1)))
    (e₂ ∙ ap (λ (o : List ℕ). sets o (p + 4 * k + 2) (le16 y)) e₁ ∙ sets_then (le16 x) (le16 y) out (p + 4 * k) (p + 4 * k + 2) refl
    ∙ ap₂ (λ (a b : ℕ). sets out (p + 4 * k) (le16 a ++ le16 b)) (sym px) (sym py))
    (omega arith)
    ∙ ap (λ (es : List Event). sets out (p + 4 * k) (captured es)) (sym (points-next r n k h)) ∙ g

pub points_end : (r : List ℕ) (n : ℕ) (out₀ out : List ℕ) (p k : ℕ) → n ≤ k
    → sets out (p + 4 * k) (points_left r n k) ≡ sets out₀ p (captured (points (drop 4 r) n)) → out ≡ sets out₀ p (captured (points (drop 4 r) n))
points_end r n out₀ out p k h g =
    sym (ap (λ (m : ℕ). sets out (p + 4 * k) (captured (points (drop (4 + 4 * k) r) m))) (let e : n - k ≡ 0 = omega arith in e)) ∙ g

-- ---- a record
pub wrote-points : (r out out' : List ℕ) (p n : ℕ) → kind r ≡ 1 → n ≡ held r → out' ≡ sets out p (captured (points (drop 4 r) n))
    → Wrote out p (captured (events_of r)) out' (p + 4 * n)
wrote-points r out out' p n k e w =
    let q : points (drop 4 r) n ≡ events_of r = ap (points (drop 4 r)) e ∙ sym (of_points r k) in
    record {
      written = w ∙ ap (λ (es : List Event). sets out p (captured es)) q;
      behind = omega (arith, captured_long (events_of r), ap (sum_over size) q, points-size (drop 4 r) n);
    }

pub wrote_lost : (r out o₁ o₂ : List ℕ) (p n : ℕ) → (kind r ≡ 1 → ⊥) → n ≡ u32 r 4 → o₁ ≡ sets out p (le32 2147516416) → o₂ ≡ sets o₁ (p + 4) (le32 n)
    → Wrote out p (captured (events_of r)) o₂ (p + 8)
wrote_lost r out o₁ o₂ p n k e e₁ e₂ =
    let q : lost n ∷ [] ≡ events_of r = ap (λ (m : ℕ). lost m ∷ []) e ∙ sym (of_lost r k) in
    record {
      written = e₂ ∙ ap (λ (o : List ℕ). sets o (p + 4) (le32 n)) e₁ ∙ sets_then lost_mark (le32 n) out p (p + 4) refl
          ∙ ap (λ (es : List Event). sets out p (captured es)) q;
      behind = omega (arith, captured_long (events_of r), ap (sum_over size) q);
    }

-- ---- the chain, where some of its records are left
pub record Copying (s out₀ out : List ℕ) (p : ℕ) (rest : List (List ℕ)) : Type 0 where
  pub long : length out ≡ length out₀
  pub most : p + 1024 * length rest ≤ 2097152
  pub written : sets out p (captured (events_in rest)) ≡ sets out₀ 0 (captured (events s))
  pub behind : p + length (captured (events_in rest)) ≡ length (captured (events s))

pub copying_start : (s out : List ℕ) (rest : List (List ℕ)) → refusal s ≡ 0 → rest ≡ records s → Copying s out out 0 rest
copying_start s out rest acc e =
    let q : events_in rest ≡ events s = ap events_in e ∙ records_events s in
    record {
      long = refl;
      most = omega (arith, ap length e, records_long s acc);
      written = ap (λ (es : List Event). sets out 0 (captured es)) q;
      behind = omega (arith, ap (λ (es : List Event). length (captured es)) q);
    }

pub copying_step : (s out₀ out out' : List ℕ) (p p' : ℕ) (rest : List (List ℕ)) (r : List ℕ) (rest' : List (List ℕ)) → Copying s out₀ out p rest → rest ≡ r ∷ rest'
    → Wrote out p (captured (events_of r)) out' p' → p' ≤ p + 1024 → Copying s out₀ out' p' rest'
copying_step s out₀ out out' p p' rest r rest' g e w b =
    record {
      long = ap length w.written ∙ length-sets out p (captured (events_of r)) ∙ g.long;
      most = omega (arith, g.most, ap length e);
      written = captured-then out out' p p' (events_of r) (events_in rest') w.written (omega (arith, w.behind, captured_long (events_of r)))
          ∙ ap (λ (rs : List (List ℕ)). sets out p (captured (events_in rs))) (sym e) ∙ g.written;
      behind = omega (
        arith,
        g.behind,
        w.behind,
        ap (λ (rs : List (List ℕ)). length (captured (events_in rs))) e,
        ap length (captured_append (events_of r) (events_in rest')),
        length-append (captured (events_of r)) (captured (events_in rest')),
      );
    }

pub copying_end : (s out₀ out : List ℕ) (p : ℕ) (rest : List (List ℕ)) → Copying s out₀ out p rest → rest ≡ [] → Wrote out₀ 0 (captured (events s)) out p
copying_end s out₀ out p rest g e =
    record {
      written = sym (ap (λ (rs : List (List ℕ)). sets out p (captured (events_in rs))) e) ∙ g.written;
      behind = omega (arith, g.behind, ap (λ (rs : List (List ℕ)). length (captured (events_in rs))) e);
    }

-- ---- the call
refused_gives : (s out : List ℕ) (e : Refusal) → number e ≡ capture_number s (length out) → Gives s out out (Err e)
unfolding capture_result
refused_gives s out e h =
    let z : capture_number s (length out) ≡ 0 → ⊥ = λ q. some_number e (h ∙ q) in
    record { number = h; counts = left_kept _ _ _ z; bytes = left_kept _ _ _ z }

pub short_gives : (s out : List ℕ) (e : Refusal) → number e ≡ need (leb longest (length out)) 7 0 → Gives s out out (Err e)
unfolding capture_number
short_gives s out e h = refused_gives s out e (need_first (leb longest (length out)) 7 _ e h)

pub unread_gives : (s out : List ℕ) (e : Refusal) → longest ≤ length out → number e ≡ refusal s → Gives s out out (Err e)
unfolding capture_number
unread_gives s out e h n = refused_gives s out e (rw (le-leb longest (length out) h) n)

pub written_gives : (s out out' : List ℕ) (n : ℕ) → longest ≤ length out → refusal s ≡ 0 → Wrote out 0 (captured (events s)) out' n → Gives s out out' (Ok n)
unfolding capture_result
written_gives s out out' n h acc w =
    let z : capture_number s (length out) ≡ 0 = unfold capture_number in rw (le-leb longest (length out) h, acc) in
    record { number = sym z; counts = rw z (ap (λ (k : ℕ). k ∷ []) (let e : n ≡ length (captured (events s)) = omega (arith, w.behind) in e)); bytes = rw z w.written }

-- ---- no capture is longer
record_size : (r : List ℕ) → record_ok r ≡ true → sum_over size (events_of r) ≤ 28
unfolding record_ok events_of
record_size r ok =
    by_test (is_points r)
    (λ e.
    let z = and_split (leb (held r) 7 && leb 1 (held r)) (points_ok (drop 4 r) (held r)) (rw e at ok) in
    let y = and_split (leb (held r) 7) (leb 1 (held r)) z.0 in
    rw e (omega (arith, leb-true (held r) 7 y.0, points-size (drop 4 r) (held r))))
    (λ e. rw e (omega arith))

chain-size : (f : ℕ → List ℕ) (c : List ℕ) → All (λ i. record_ok (f i) ≡ true) c → sum_over size (gather (λ i. events_of (f i)) c) ≤ 28 * length c
chain-size f [] a = omega arith
chain-size f (i ∷ c) a =
    omega (arith, sum_append size (events_of (f i)) (gather (λ j. events_of (f j)) c), record_size (f i) a.0, chain-size f c a.1)

pub none_longer : NoneLonger
unfolding events chain
none_longer s acc =
    let o = accepted_sound s acc in
    let c : List ℕ = chain s in
    let l : length c < count s = run_short (next s) (count s) (next s 0) c (omega (arith, o.least)) o.run o.within in
    omega (arith, captured_long (events s), chain-size (rec s) c o.records, o.most)
