-- No listing is longer than `longest`. Assumes nothing.
use mathlib.Core.Path.{◌≡◌, refl, ap}
use mathlib.Core.Bool.{true}
use mathlib.Core.List.{List, [], ◌∷◌, ◌++◌, map, map-append}
use Prim.Native.Nat.{ℕ, zero, suc, ◌+◌, ◌*◌, ◌≤◌, ◌<◌}
use native.Mathlib.Omega.{arith}
use borrow.Author.Tests.{leb-true, ltb-true}
use lib.Dec.{leb}
use lib.ListN.{length, get_or, drop, length-append, length-map}
use Rattle.line.specs.Mode.{is_mode, is_role, by_mode, width, face}
use Rattle.line.specs.declared.Point.{Point}
use Rattle.deciding.specs.Decide.{Region, State, Origin, decide}
use Rattle.deciding.specs.Distance.{distance}
use Rattle.coding.specs.Code.{group}
use Rattle.line.specs.Refusal.{accepted}
use Rattle.line.proofs.ByMode.{by_all, width_range}
use Rattle.octets.specs.Number.{u32}
use Rattle.line.proofs.Tests.{by_test, and_split}
use Rattle.scrambler.specs.Scramble.{Datum, descramble}
use Rattle.scrambler.proofs.BitLaws.{length-bits}
use Rattle.scrambler.proofs.GroupLaws.{length-descramble}
use Rattle.receiver.specs.Reference.{Reference}
use Rattle.std.specs.Prelude.{None as none, Some as some}
use Rattle.receiver.specs.declared.Receiver.{Receiver}
use Rattle.receiver.specs.Receiver.{fresh_receiver, refused, line_bits, state_answer, point_answer, event_answer, answer}
use Rattle.receiver.specs.Receiver.{gap, next, Event as Call, point as pointCall, refusal as eventRefused}
use Rattle.receiver.specs.Calls.{after}
use Rattle.store.specs.Chain.{gather}
use Rattle.store.specs.Layout.{Event, point, lost, count, rec, held, is_points, point_at, points, record_ok, events_of}
use Rattle.store.specs.Layout.{next as nextIn}
use Rattle.store.specs.Store.{chain, events, total, head_ok, refusal}
use Rattle.line.specs.Table.{All}
use Rattle.summing.specs.declared.EventSums.{EventSums}
use Rattle.summing.specs.Sums.{sums_of}
use Rattle.store.proofs.Chains.{run_short}
use Rattle.store.proofs.Sounds.{accepted_sound}
use Rattle.capture.specs.Capture.{size}
use Rattle.listing.specs.Text.{decimal, glyphs, line_glyphs, bits_are, blank, kind_text, line_text, taken, lines, numbers_line, first_line, sum_line, chain_text, refused_line, mode_in, role_in, text, longest}
use Rattle.listing.specs.Laws.{NoneLonger}
use Rattle.listing.proofs.Digits.{decimal_long, decimal_one}
use Rattle.listing.proofs.Lines.{lines_append, points_record}
use Rattle.listing.proofs.Heards.{head_parts}

-- ---- the line of a point, and of a lost count
bits_long : (ls : List ℕ) (ds : List Datum) → length (bits_are ++ (line_glyphs ls ++ (blank ++ glyphs ds))) ≡ 7 + length ls + length ds
bits_long ls ds = simp (length-append, length-map) (omega arith)

state_long : (s : Receiver) (o : Reference) (y d : ℕ) → length (kind_text (state_answer s o y d)) ≤ 15
unfolding kind_text state_answer
state_long s none y d = omega arith
state_long s (some x) y d =
    let bs : List ℕ = line_bits s.mode x y in
    omega (
      arith,
      bits_long bs (descramble s.mode s.role s.line bs),
      length-bits (width s.mode) (group s.mode (face s.mode x) y),
      length-descramble s.mode s.role s.line bs,
      width_range s.mode,
    )

decision_long : (s : Receiver) (p : Point) (d : Region) → length (kind_text (point_answer s p d)) ≤ 15
unfolding point_answer kind_text decimal
decision_long s p (State y) = state_long s s.reference y (distance s.mode y p)
decision_long s p Origin = omega arith

-- of any event whose kind takes at most b bytes
line_long : (s : Receiver) (e : Call) (b : ℕ) → length (kind_text (event_answer s e)) ≤ b → length (line_text s.place.0 (answer s e)) ≤ 11 + b
unfolding line_text answer kind_text
line_long s e b h = simp length-append (omega (arith, decimal_long s.place.0, go (eventRefused s e)))
  where
    go : (n : ℕ) → length (kind_text (accepted n (event_answer s e) (refused n))) ≤ b
    go zero = h
    go (suc n) = omega arith

points_long : (bs : List ℕ) (n : ℕ) (s : Receiver) → length (lines s (map taken (points bs n))) ≤ 26 * n
unfolding event_answer
points_long bs zero s = omega arith
points_long bs (suc n) s =
    let e : Call = pointCall (point_at bs) in
    omega (
      arith,
      length-append (line_text s.place.0 (answer s e)) (lines (next s e) (map taken (points (drop 4 bs) n))),
      line_long s e 15 (decision_long s (point_at bs) (decide s.mode (point_at bs))),
      points_long (drop 4 bs) n (next s e),
    )

lost_long : (n : ℕ) (s : Receiver) → length (lines s (gap n ∷ [])) ≤ 27
unfolding event_answer kind_text
lost_long n s =
    omega (
      arith,
      length-append (line_text s.place.0 (answer s (gap n))) [],
      line_long s (gap n) 16 (simp length-append (omega (arith, decimal_long n))),
    )

-- of an event of a capture: 7 bytes hold the text of each of its own
pub event_long : (s : Receiver) (e : Event) → length (line_text s.place.0 (answer s (taken e))) ≤ 7 * size e
unfolding event_answer kind_text
event_long s (point p) = omega (arith, line_long s (pointCall p) 15 (decision_long s p (decide s.mode p)))
event_long s (lost n) = omega (arith, line_long s (gap n) 16 (simp length-append (omega (arith, decimal_long n))))

-- ---- the lines of a record, and of a chain
record_long : (r : List ℕ) (s : Receiver) → record_ok r ≡ true → length (lines s (map taken (events_of r))) ≤ 182
unfolding events_of
record_long r s ok =
    by_test (is_points r)
    (λ e. rw e (omega (arith, (points_record r ok e).few, points_long (drop 4 r) (held r) s)))
    (λ e. rw e (omega (arith, lost_long (u32 r 4) s)))

chain_long : (f : ℕ → List ℕ) (c : List ℕ) (s : Receiver) → All (λ i. record_ok (f i) ≡ true) c
    → length (lines s (map taken (gather (λ i. events_of (f i)) c))) ≤ 182 * length c
chain_long f [] s a = omega arith
chain_long f (i ∷ c) s a =
    let xs : List Call = map taken (events_of (f i)) in
    let ys : List Call = map taken (gather (λ j. events_of (f j)) c) in
    omega (
      arith,
      ap (λ es. length (lines s es)) (map-append taken (events_of (f i)) (gather (λ j. events_of (f j)) c)),
      ap length (lines_append s xs ys),
      length-append (lines s xs) (lines (after s xs) ys),
      record_long (f i) s a.0,
      chain_long f c (after s xs) a.1,
    )

-- ---- the text
first_long : (m role t : ℕ) → m < 10 → role < 10 → length (first_line m role t) ≤ 37
unfolding numbers_line
first_long m role t h k = simp length-append (omega (arith, decimal_one m h, decimal_one role k, decimal_long t))

pub sums_long : (v : EventSums) → length (sum_line v) ≤ 54
unfolding numbers_line
sums_long v = simp length-append (omega (arith, decimal_long v.points, decimal_long v.lost, decimal_long v.gaps))

head_small : (r : List ℕ) → head_ok r ≡ true → (get_or r 4 0 < 10) × (get_or r 5 0 < 10)
unfolding is_mode is_role
head_small r e =
    let h = head_parts r e in
    let m : get_or r 4 0 ≤ 6 = leb-true (get_or r 4 0) 6 (and_split (leb 1 (get_or r 4 0)) (leb (get_or r 4 0) 6) h.0).1 in
    let n : get_or r 5 0 < by_mode (get_or r 4 0) 1 1 2 2 = ltb-true _ _ h.1 in
    let k : by_mode (get_or r 4 0) 1 1 2 2 ≤ 2 = by_all (λ (w : ℕ). w ≤ 2) 1 1 2 2 (omega arith) (omega arith) (omega arith) (omega arith) (get_or r 4 0) in
    (omega arith, omega arith)

pub track_long : (s : List ℕ) → refusal s ≡ 0 → length (chain_text (mode_in s) (role_in s) (total s) (events s)) ≤ longest
unfolding chain_text events chain
track_long s acc =
    let o = accepted_sound s acc in
    let h = head_small (rec s 0) o.head in
    let c : List ℕ = chain s in
    let l : length c < count s = run_short (nextIn s) (count s) (nextIn s 0) c (omega (arith, o.least)) o.run o.within in
    let ls : List ℕ = lines (fresh_receiver (mode_in s) (role_in s)) (map taken (events s)) in
    let v : EventSums = sums_of (events s) in
    omega (
      arith,
      length-append (first_line (mode_in s) (role_in s) (total s)) (ls ++ sum_line v),
      length-append ls (sum_line v),
      sums_long v,
      first_long (mode_in s) (role_in s) (total s) h.0 h.1,
      chain_long (rec s) c (fresh_receiver (mode_in s) (role_in s)) o.records,
      o.most,
    )

refused_long : (n : ℕ) → length (refused_line n) ≤ longest
unfolding refused_line
refused_long n = simp length-append (omega (arith, decimal_long n))

pub none_longer : NoneLonger
unfolding text
none_longer s = go (refusal s) refl
  where
    go : (n : ℕ) → refusal s ≡ n → length (accepted n (chain_text (mode_in s) (role_in s) (total s) (events s)) (refused_line n)) ≤ longest
    go zero e = track_long s e
    go (suc n) e = refused_long (suc n)
