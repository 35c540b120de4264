-- The bytes of an accepted block: they stand for the data bits of its answers, and a run in them ends with the block or at a gap. Assumes
-- nothing.
use Prim.Native.Nat.{ℕ, suc, ◌+◌, ◌*◌, ◌^◌, ◌/◌, ◌%◌, ◌<◌, ◌≤◌}
use mathlib.Core.Path.{◌≡◌, refl, sym, ap, ap₂, ◌∙◌, subst}
use mathlib.Core.Bool.{Bool, true, false, ◌&&◌, cond, false≢true}
use mathlib.Core.List.{List, [], ◌∷◌, map}
use mathlib.Core.Logic.{◌⊎◌, inl, inr, ⊎_elim}
use native.Mathlib.Omega.{arith}
use borrow.Author.Tests.{leb-true, lt-ltb, le-leb, eq-eqb}
use lib.Dec.{T, eqb, leb, leb→le}
use lib.ListN.{length, take, drop, length-map}
use lib.Seq.{sets, sets-eq, take_at}
use Rattle.line.specs.declared.Point.{Point}
use Rattle.line.specs.Mode.{width, capacity, face}
use Rattle.line.specs.Refusal.{accepted}
use Rattle.line.specs.Table.{every}
use Rattle.line.specs.Point.{in_range}
use Rattle.line.proofs.ByMode.{by_all, width_range}
use Rattle.line.proofs.RefusalLaws.{need_met, need_rest, next_rest, left_done}
use Rattle.line.proofs.TableLaws.{and_left, and_right, map-take, map-drop}
use Rattle.line.proofs.Tests.{by_test, and_join}
use Rattle.deciding.specs.Decide.{Region, State, Origin, decide}
use Rattle.deciding.specs.Distance.{distance}
use Rattle.coding.specs.Code.{group}
use Rattle.scrambler.specs.declared.Register.{Register}
use Rattle.scrambler.specs.Bits.{bits, value}
use Rattle.scrambler.specs.Register.{push, pushes}
use Rattle.scrambler.specs.Scramble.{Datum, mark, mix, descramble}
use Rattle.scrambler.specs.Group.{plain_of, unsettled_in, descrambled, marked}
use Rattle.scrambler.proofs.BitLaws.{length-bits, value-bits, bits-same}
use Rattle.scrambler.proofs.RegisterLaws.{full_push, full_pushes}
use Rattle.scrambler.proofs.GroupLaws.{length-descramble, group_read, descrambled_small}
use Rattle.receiver.specs.Reference.{Reference}
use Rattle.std.specs.Prelude.{None as none, Some as some}
use Rattle.receiver.specs.declared.Receiver.{Receiver}
use Rattle.receiver.specs.Receiver.{point, Answer, refused, reference, decoded, lost, refusal, has_room, state_refusal, line_bits, state_answer, point_answer, event_answer, answer, state_line, state_next, point_next, event_next, next}
use Rattle.receiver.specs.Calls.{EachAccepted, answers, data_of, row}
use Rattle.receiver.proofs.CallLaws.{heard-accepted, same_next}
use Rattle.bulk.specs.Block.{Given, points_of, line_byte, plain_byte, answers_to, Parts, wrote, Lent, sizes, lent_ok, block_refusal, parts_after}
use Rattle.bulk.proofs.BlockLaws.{just_when}
use Rattle.settled.specs.Run.{data_in, data_of_bytes, settled_ones, any_settled, all_settled, before, following, points_from, run_points, run_data, run_bits}
use Rattle.settled.specs.Laws.{answer_at, WrittenBytes}
use Rattle.settled.proofs.ByteLaws.{data_there}

-- AN ACCEPTED POINT

-- a gap, a reference, or bits after a reference
data Heard : Receiver → Point → Type 0 where
  gap_heard : {s : Receiver} {p : Point} → answer s (point p) ≡ lost 1 → Heard s p
  reference_heard : {s : Receiver} {p : Point} (d : ℕ) → s.reference ≡ none → answer s (point p) ≡ reference d → Heard s p
  bits-heard : {s : Receiver} {p : Point} (x y d : ℕ) → s.reference ≡ some x
      → answer s (point p) ≡ decoded (line_bits s.mode x y) (descramble s.mode s.role s.line (line_bits s.mode x y)) d
      → (next s (point p)).reference ≡ some y → (next s (point p)).line ≡ pushes s.mode s.line (line_bits s.mode x y) → Heard s p

heard_point : (s : Receiver) (p : Point) → refusal s (point p) ≡ 0 → Heard s p
unfolding answer next event_answer event_next point_answer point_next state_answer state_next state_line
heard_point s p z =
    of_region (decide s.mode p) (ap (λ (n : ℕ). accepted n (event_answer s (point p)) (refused n)) z) (ap (λ (n : ℕ). accepted n (event_next s (point p)) s) z)
  where
    of_state : (o : Reference) (y d : ℕ) → s.reference ≡ o → answer s (point p) ≡ state_answer s o y d → next s (point p) ≡ state_next s o y → Heard s p
    of_state none y d r a n = reference_heard d r a
    of_state (some x) y d r a n = bits-heard x y d r a (ap (λ (t : Receiver). t.reference) n) (ap (λ (t : Receiver). t.line) n)

    of_region : (d : Region) → answer s (point p) ≡ point_answer s p d → next s (point p) ≡ point_next s d → Heard s p
    of_region Origin a n = gap_heard a
    of_region (State y) a n = of_state s.reference y (distance s.mode y p) refl a n

answers_cons : (s : Receiver) (p : Point) (ps : List Point) → refusal s (point p) ≡ 0 → answers_to s (p ∷ ps) ≡ answer s (point p) ∷ answers_to (next s (point p)) ps
answers_cons s p ps z = ap answers (heard-accepted s (point p) (map point ps) z)

-- ITS BYTES

-- the bits of a group, with 16 times a number above them
bits_above : (m u v : ℕ) → bits (width m) (16 * u + v) ≡ bits (width m) v
unfolding width
bits_above m u v = by_all (λ (w : ℕ). bits w (16 * u + v) ≡ bits w v) 2 3 2 4
    (bits-same 2 (16 * u + v) v (omega arith)) (bits-same 3 (16 * u + v) v (omega arith)) (bits-same 2 (16 * u + v) v (omega arith)) (bits-same 4 (16 * u + v) v (omega arith)) m

group_small : (m g : ℕ) → g % 2 ^ width m < 16
unfolding width
group_small m g = by_all (λ (w : ℕ). g % 2 ^ w < 16) 2 3 2 4 (omega arith) (omega arith) (omega arith) (omega arith) m

group_bytes : (m role : ℕ) (h : Register) (g : ℕ)
    → data_in (width m) (value (bits (width m) g)) (16 * unsettled_in (descramble m role h (bits (width m) g)) + plain_of (descramble m role h (bits (width m) g)))
    ≡ descramble m role h (bits (width m) g)
group_bytes m role h g =
    let ds : List Datum = descramble m role h (bits (width m) g) in
    let n : plain_of ds < 16 = unfold descrambled in (descrambled_small m role h g).0 in
    let l : value (bits (width m) g) < 16 = subst (λ (k : ℕ). k < 16) (sym (value-bits (width m) g)) (group_small m g) in
    let u : (16 * unsettled_in ds + plain_of ds) / 16 ≡ unsettled_in ds = omega arith in
    data_there (width m) (value (bits (width m) g)) (16 * unsettled_in ds + plain_of ds) (lt-ltb _ _ l)
    ∙ ap₂ marked u (bits_above m (unsettled_in ds) (plain_of ds)) ∙ group_read m role h g

point_bytes_lem : (s : Receiver) (p : Point) → Heard s p → data_in (width s.mode) (line_byte (answer s (point p))) (plain_byte (answer s (point p))) ≡ data_of (answer s (point p))
point_bytes_lem s p (gap_heard e) = subst (λ (a : Answer). data_in (width s.mode) (line_byte a) (plain_byte a) ≡ data_of a) (sym e) refl
point_bytes_lem s p (reference_heard d r e) = subst (λ (a : Answer). data_in (width s.mode) (line_byte a) (plain_byte a) ≡ data_of a) (sym e) refl
point_bytes_lem s p (bits-heard x y d r e n l) =
    subst (λ (a : Answer). data_in (width s.mode) (line_byte a) (plain_byte a) ≡ data_of a) (sym e) (group_bytes s.mode s.role s.line (group s.mode (face s.mode x) y))

stand_for : (w : ℕ) (s : Receiver) (ps : List Point) → w ≡ width s.mode → EachAccepted s (map point ps)
    → data_of_bytes w (map line_byte (answers_to s ps)) (map plain_byte (answers_to s ps)) ≡ map data_of (answers_to s ps)
stand_for w s [] e f = refl
stand_for w s (p ∷ ps) e f =
    subst (λ (xs : List Answer). data_of_bytes w (map line_byte xs) (map plain_byte xs) ≡ map data_of xs) (sym (answers_cons s p ps f.0))
    (ap₂ (λ (d : List Datum) (ds : List (List Datum)). d ∷ ds)
    (ap (λ (k : ℕ). data_in k (line_byte (answer s (point p))) (plain_byte (answer s (point p)))) e ∙ point_bytes_lem s p (heard_point s p f.0))
    (stand_for w (next s (point p)) ps (e ∙ sym (ap width (same_next s (point p)).0)) f.1))

-- A FULL REGISTER

module _ (m role : ℕ) where
  -- after it all data bits are settled
  full_settled : (h : Register) (bs : List ℕ) → capacity m ≤ h.held.0 → length (settled_ones (descramble m role h bs)) ≡ length bs
  full_settled h [] f = refl
  full_settled h (b ∷ bs) f =
      ap (λ (t : Bool). length (settled_ones (mark t (mix m role h b) ∷ descramble m role (push m h b) bs))) (le-leb (capacity m) h.held.0 f)
      ∙ ap suc (full_settled (push m h b) bs (full_push m h b f))

  full_all : (h : Register) (bs : List ℕ) → 0 < length bs → capacity m ≤ h.held.0 → all_settled (descramble m role h bs) ≡ true
  full_all h bs n f =
      let e = full_settled h bs f in
      let l = length-descramble m role h bs in
      and_join _ _ (lt-ltb 0 (length (settled_ones (descramble m role h bs))) (omega arith)) (eq-eqb (length (settled_ones (descramble m role h bs))) (length (descramble m role h bs)) (omega arith))

  -- and where one is settled it is full afterwards
  settled_full : (h : Register) (bs : List ℕ) → any_settled (descramble m role h bs) ≡ true → capacity m ≤ (pushes m h bs).held.0
  settled_full h [] e = absurd (false≢true e)
  settled_full h (b ∷ bs) e = by_test (leb (capacity m) h.held.0)
      (λ t. full_pushes m h (b ∷ bs) (leb-true (capacity m) h.held.0 t))
      (λ t. settled_full (push m h b) bs (subst (λ (c : Bool). any_settled (mark c (mix m role h b) ∷ descramble m role (push m h b) bs) ≡ true) t e))

-- WHERE A RUN ENDS

-- n points before the end or before a gap
abbrev Ends : List Answer → ℕ → Type 0
Ends xs n = (n ≡ length xs) ⊎ (answer_at xs n ≡ lost 1)

ends_later : (a : Answer) (xs : List Answer) (n : ℕ) → Ends xs n → Ends (a ∷ xs) (suc n)
ends_later a xs n (inl e) = inl (ap suc e)
ends_later a xs n (inr e) = inr e

line_some : (m x y : ℕ) → 0 < length (line_bits m x y)
line_some m x y = let w = (width_range m).0 in omega (arith, length-bits (width m) (group m (face m x) y))

-- after a reference and a full register: all that follows up to a gap
follow_ends : (s : Receiver) (ps : List Point) (x : ℕ) → s.reference ≡ some x → capacity s.mode ≤ s.line.held.0 → EachAccepted s (map point ps)
    → Ends (answers_to s ps) (following (map data_of (answers_to s ps)))
follow_ends s [] x r f q = inl refl
follow_ends s (p ∷ ps) x r f q =
    subst (λ (xs : List Answer). Ends xs (following (map data_of xs))) (sym (answers_cons s p ps q.0)) (go (heard_point s p q.0) (λ y r' f'. follow_ends (next s (point p)) ps y r' f' q.1))
  where
    t : Receiver
    t = next s (point p)

    rest : List Answer
    rest = answers_to t ps

    go : Heard s p → ((y : ℕ) → t.reference ≡ some y → capacity t.mode ≤ t.line.held.0 → Ends rest (following (map data_of rest)))
        → Ends (answer s (point p) ∷ rest) (following (map data_of (answer s (point p) ∷ rest)))
    go (gap_heard e) k = subst (λ (a : Answer). Ends (a ∷ rest) (following (map data_of (a ∷ rest)))) (sym e) (inr refl)
    go (reference_heard d r' e) k = let z : ◌≡◌ {A = ℕ} 0 1 = cc in absurd (omega arith)
    go (bits-heard x' y d r' e n l) k =
        let m : ℕ = s.mode in
        let bs : List ℕ = line_bits m x' y in
        let a : all_settled (descramble m s.role s.line bs) ≡ true = full_all m s.role s.line bs (line_some m x' y) f in
        let g : capacity t.mode ≤ t.line.held.0 = rw ((same_next s (point p)).0, l) (full_pushes m s.line bs f) in
        subst (λ (b : Answer). Ends (b ∷ rest) (following (map data_of (b ∷ rest)))) (sym e)
        (subst (Ends (decoded bs (descramble m s.role s.line bs) d ∷ rest)) (sym (ap (λ (b : Bool). cond b (suc (following (map data_of rest))) 0) a)) (ends_later (decoded bs (descramble m s.role s.line bs) d) rest (following (map data_of rest)) (k y n g)))

-- a run that begins with the first point, and one that begins later
module _ (d : List Datum) (ds : List (List Datum)) where
  run_at_once : any_settled d ≡ true → before (d ∷ ds) + run_points (d ∷ ds) ≡ suc (following ds)
  unfolding run_points
  run_at_once e =
      ap (λ (n : ℕ). n + points_from (drop n (d ∷ ds))) (ap (λ (c : Bool). cond c 0 (suc (before ds))) e)
      ∙ (let i : 0 + suc (following ds) ≡ suc (following ds) = omega arith in i)

  run_later : any_settled d ≡ false → before (d ∷ ds) + run_points (d ∷ ds) ≡ suc (before ds + run_points ds)
  unfolding run_points
  run_later e =
      ap (λ (n : ℕ). n + points_from (drop n (d ∷ ds))) (ap (λ (c : Bool). cond c 0 (suc (before ds))) e)
      ∙ (let i : suc (before ds) + points_from (drop (before ds) ds) ≡ suc (before ds + points_from (drop (before ds) ds)) = omega arith in i)

run_ends : (s : Receiver) (ps : List Point) → EachAccepted s (map point ps)
    → Ends (answers_to s ps) (before (map data_of (answers_to s ps)) + run_points (map data_of (answers_to s ps)))
unfolding run_points
run_ends s [] q = inl (omega arith)
run_ends s (p ∷ ps) q =
    subst Run (sym (answers_cons s p ps q.0))
    (by_test (any_settled (data_of (answer s (point p))))
    (λ e. go (heard_point s p q.0) e (λ y r f. follow_ends (next s (point p)) ps y r f q.1))
    (λ e. subst (Ends (answer s (point p) ∷ rest)) (sym (run_later (data_of (answer s (point p))) (map data_of rest) e)) (ends_later (answer s (point p)) rest _ (run_ends (next s (point p)) ps q.1))))
  where
    t : Receiver
    t = next s (point p)

    rest : List Answer
    rest = answers_to t ps

    Run : List Answer → Type 0
    Run xs = Ends xs (before (map data_of xs) + run_points (map data_of xs))

    go : Heard s p → any_settled (data_of (answer s (point p))) ≡ true → ((y : ℕ) → t.reference ≡ some y → capacity t.mode ≤ t.line.held.0 → Ends rest (following (map data_of rest)))
        → Run (answer s (point p) ∷ rest)
    go (gap_heard e) a k = let z : false ≡ true = subst (λ (b : Answer). any_settled (data_of b) ≡ true) e a in absurd (false≢true z)
    go (reference_heard d r e) a k = let z : false ≡ true = subst (λ (b : Answer). any_settled (data_of b) ≡ true) e a in absurd (false≢true z)
    go (bits-heard x y d r e n l) a k =
        let m : ℕ = s.mode in
        let bs : List ℕ = line_bits m x y in
        let z : any_settled (descramble m s.role s.line bs) ≡ true = subst (λ (b : Answer). any_settled (data_of b) ≡ true) e a in
        let g : capacity t.mode ≤ t.line.held.0 = rw ((same_next s (point p)).0, l) (settled_full m s.role s.line bs z) in
        subst (Ends (answer s (point p) ∷ rest)) (sym (run_at_once (data_of (answer s (point p))) (map data_of rest) a)) (ends_later (answer s (point p)) rest _ (k y n g))

answers-length : (s : Receiver) (ps : List Point) → EachAccepted s (map point ps) → length (answers_to s ps) ≡ length ps
answers-length s [] q = refl
answers-length s (p ∷ ps) q = ap length (answers_cons s p ps q.0) ∙ ap suc (answers-length (next s (point p)) ps q.1)

-- A BLOCK

block-place : (s : Receiver) (g : Given) (n : Lent) → block_refusal s g n ≡ 0 → s.place.0 ≤ 4294967295
unfolding block_refusal has_room
block-place s g n z =
    let a = need_rest (lent_ok g n) 6 _ (next_rest (state_refusal s) _ z) in
    let b = need_rest (every in_range (points_of g)) 7 _ (need_rest g.finite 17 _ a) in
    let h = leb→le (s.place.0 + length (points_of g)) 4294967295 (need_met (leb (s.place.0 + length (points_of g)) 4294967295) 15 0 b) in
    omega arith

-- what `receive_points` leaves at the front of the lent bytes
front : (l vs : List ℕ) (n : ℕ) → length vs ≡ n → n ≤ length l → take n (sets l 0 vs) ≡ vs
front l vs n e h = ap (take n) (sets-eq vs l 0 (omega arith)) ∙ take_at vs (drop (0 + length vs) l) n e

module _ (s : Receiver) (g : Given) (b : Parts) (z : block_refusal s g (sizes b) ≡ 0) where
  accepted-points : EachAccepted s (map point (points_of g))
  accepted-points = ((just_when s g (sizes b) (block-place s g (sizes b) z)).0 z).3

  room : (length (points_of g) ≤ length b.line) × (length (points_of g) ≤ length b.plain)
  unfolding lent_ok
  room =
      let n : ℕ = length (points_of g) in
      let even : Bool = eqb (length g.numbers % 2) 0 in
      let l : Bool = leb n (length b.line) in
      let p : Bool = leb n (length b.plain) in
      let t : T ((even && l) && p) = and_left ((even && l) && p) (leb n (length b.distance)) ((just_when s g (sizes b) (block-place s g (sizes b) z)).0 z).1 in
      (leb→le n (length b.line) (and_right even l (and_left (even && l) p t)), leb→le n (length b.plain) (and_right (even && l) p t))

  written_front : (f : Answer → ℕ) (l : List ℕ) → length (points_of g) ≤ length l → take (length (points_of g)) (sets l 0 (map f (answers_to s (points_of g)))) ≡ map f (answers_to s (points_of g))
  written_front f l h = front l _ (length (points_of g)) (length-map (answers_to s (points_of g)) f ∙ answers-length s (points_of g) accepted-points) h

  after_it : parts_after s g b ≡ wrote b 0 (answers_to s (points_of g))
  unfolding parts_after
  after_it = sym (left_done (block_refusal s g (sizes b)) (wrote b 0 (answers_to s (points_of g))) b z)

  bytes_stand_for : data_of_bytes (width s.mode) (take (length (points_of g)) (parts_after s g b).line) (take (length (points_of g)) (parts_after s g b).plain) ≡ map data_of (answers_to s (points_of g))
  bytes_stand_for =
      ap₂ (data_of_bytes (width s.mode))
      (ap (λ (c : Parts). take (length (points_of g)) c.line) after_it ∙ written_front line_byte b.line room.0)
      (ap (λ (c : Parts). take (length (points_of g)) c.plain) after_it ∙ written_front plain_byte b.plain room.1)
      ∙ stand_for (width s.mode) s (points_of g) refl accepted-points

pub written_bytes : WrittenBytes
unfolding run_bits run_data
written_bytes s g b z =
    let q = accepted-points s g b z in
    let e = bytes_stand_for s g b z in
    let ds : List (List Datum) = map data_of (answers_to s (points_of g)) in
    record {
      stand_for = e;
      in_order = ap run_bits e
          ∙ ap (λ (l : List (List Datum)). settled_ones (row l))
          (sym (map-take data_of (run_points ds) (drop (before ds) (answers_to s (points_of g))) ∙ ap (take (run_points ds)) (map-drop data_of (before ds) (answers_to s (points_of g)))));
      stops = ⊎_elim (λ e. inl (e ∙ answers-length s (points_of g) q)) (λ e. inr e) (run_ends s (points_of g) q);
    }
