-- The points of a record, taken by one block: its numbers are the points, and its bytes are their lines. Assumes nothing.
use mathlib.Core.Path.{◌≡◌, refl, sym, ap, ap₂, ◌∙◌, subst}
use mathlib.Core.List.{List, [], ◌∷◌, ◌++◌, map}
use Prim.Native.Nat.{ℕ, zero, suc, ◌+◌, ◌*◌, ◌-◌, ◌^◌, ◌/◌, ◌%◌, ◌≤◌, ◌<◌}
use native.Mathlib.Omega.{arith}
use native.Mathlib.Nat.{add-zero}
use borrow.Author.Tests.{ne_eqb, eq-eqb, le-leb}
use lib.IntN.{ℤ}
use lib.ListN.{length, get_or, set, take, drop, drop_of_length-le, length-map}
use lib.Pow.{pow_mono}
use lib.Seq.{sets, sets-eq, take_at, drop-cons, drop-drop}
use Rattle.line.specs.declared.Point.{Point}
use Rattle.line.specs.Mode.{width, face}
use Rattle.line.specs.Point.{at, pairs}
use Rattle.line.specs.Refusal.{answered, accepted}
use Rattle.line.proofs.ByMode.{width_range}
use Rattle.line.proofs.PointLaws.{pairs-length}
use Rattle.octets.specs.Number.{u16, i16, signed}
use Rattle.octets.proofs.Numbers.{u16-drop}
use Rattle.line.proofs.Sets.{sets-whole}
use Rattle.deciding.specs.Decide.{Region, State, Origin, decide}
use Rattle.deciding.specs.Distance.{distance}
use Rattle.coding.specs.Code.{group}
use Rattle.scrambler.specs.Scramble.{Datum}
use Rattle.scrambler.specs.Bits.{bits, value}
use Rattle.scrambler.specs.Group.{descrambled, marked}
use Rattle.scrambler.proofs.BitLaws.{length-bits, bits_are, value_small, bits-value}
use Rattle.scrambler.proofs.GroupLaws.{group_read, descrambled_small}
use Rattle.std.specs.Prelude.{Result, Ok, Err}
use Rattle.std.specs.Prelude.{None as none, Some as some}
use Rattle.line.specs.declared.refusal.Refusal.{Refusal}
use Rattle.receiver.specs.Reference.{Reference}
use Rattle.receiver.specs.declared.Receiver.{Receiver}
use Rattle.receiver.specs.Receiver.{Answer, decoded, state_refusal, state_answer, point_answer, event_answer, answer, next}
use Rattle.receiver.specs.Receiver.{Event as Call, point, refused, refusal}
use Rattle.receiver.specs.Calls.{after, EachAccepted, Heard, answers}
use Rattle.receiver.proofs.OutcomeLaws.{accepted-placed}
use Rattle.receiver.proofs.CallLaws.{no_refusal, accepted_valid, same_next, heard-accepted, heard_all}
use Rattle.bulk.specs.Block.{in_units, line_byte, plain_byte, answers_to, Parts, wrote, sizes, lent_ok, block_refusal, block, parts_after}
use Rattle.bulk.proofs.BlockLaws.{has_place, each_has_place, at_once}
use Rattle.store.specs.Layout.{points}
use Rattle.listing.specs.Text.{decimal, kind_text, line_text, line_end, taken, lines}
use Rattle.listing.specs.Wrote.{Wrote, Went, numbers_in, byte_answer, byte_lines}
use Rattle.listing.proofs.Writes.{wrote_as}

-- ---- the numbers of a record
numbers_long : (bs : List ℕ) (n : ℕ) → length (numbers_in bs n) ≡ n
unfolding numbers_in
numbers_long bs zero = refl
numbers_long bs (suc n) = ap suc (numbers_long (drop 2 bs) n)

numbers-first : (bs : List ℕ) (m n : ℕ) → m ≤ n → take m (numbers_in bs n) ≡ numbers_in bs m
unfolding numbers_in
numbers-first bs zero n h = refl
numbers-first bs (suc m) zero h = absurd (omega arith)
numbers-first bs (suc m) (suc n) h = ap (λ (zs : List ℤ). i16 bs 0 ∷ zs) (numbers-first (drop 2 bs) m n (omega arith))

numbers-points : (bs : List ℕ) (n : ℕ) → map taken (points bs n) ≡ map point (pairs (numbers_in bs (2 * n)))
unfolding numbers_in
numbers-points bs zero = refl
numbers-points bs (suc n) =
    ap₂ (λ (z : ℤ) (es : List Call). point (at (i16 bs 0) z) ∷ es) (ap signed (sym (u16-drop bs 2 0)))
    (numbers-points (drop 4 bs) n ∙ ap (λ (l : List ℕ). map point (pairs (numbers_in l (2 * n)))) (sym (drop-drop 2 2 bs)))
    ∙ ap (λ (m : ℕ). map point (pairs (numbers_in bs m))) (let e : suc (suc (2 * n)) ≡ 2 * suc n = omega arith in e)

-- read one by one: those that are left after k of them
abbrev pub numbers_left : List ℕ → ℕ → List ℤ
numbers_left r k = numbers_in (drop (4 + 2 * k) r) (14 - k)

pub numbers-start : (r : List ℕ) (zs : List ℤ) → length zs ≡ 14 → sets zs 0 (numbers_left r 0) ≡ numbers_in (drop 4 r) 14
numbers-start r zs e = sets-whole (numbers_in (drop 4 r) 14) zs (numbers_long (drop 4 r) 14 ∙ sym e)

pub numbers_again : (r : List ℕ) (zs all : List ℤ) (k : ℕ) (x : ℤ) → k < 14 → x ≡ i16 r (4 + 2 * k) → sets zs k (numbers_left r k) ≡ all
    → sets (set zs k x) (k + 1) (numbers_left r (k + 1)) ≡ all
unfolding numbers_in
numbers_again r zs all k x h e g =
    let v : i16 (drop (4 + 2 * k) r) 0 ≡ x = ap signed (u16-drop r (4 + 2 * k) 0 ∙ ap (u16 r) (add-zero (4 + 2 * k))) ∙ sym e in
    let d : drop (4 + 2 * (k + 1)) r ≡ drop 2 (drop (4 + 2 * k) r) = ap (λ (n : ℕ). drop n r) (let q : 4 + 2 * (k + 1) ≡ 4 + 2 * k + 2 = omega arith in q) ∙ sym (drop-drop 2 (4 + 2 * k) r) in
    let n : 14 - k ≡ suc (14 - (k + 1)) = omega arith in
    let s : k + 1 ≡ suc k = omega arith in
    rw (d, ← v, s) (rw (n, s) at g)

pub numbers_end : (r : List ℕ) (zs all : List ℤ) (k : ℕ) → 14 ≤ k → sets zs k (numbers_left r k) ≡ all → zs ≡ all
unfolding numbers_in
numbers_end r zs all k h g = ap (λ (n : ℕ). sets zs k (numbers_in (drop (4 + 2 * k) r) n)) (let q : 0 ≡ 14 - k = omega arith in q) ∙ g

-- ---- the lines of bytes, one by one
abbrev pub lines_left : ℕ → ℕ → List ℕ → List ℕ → ℕ → List ℕ
lines_left w place ls ps k = byte_lines w (place + k) (drop k ls) (drop k ps)

pub lines_again : (w place : ℕ) (ls ps : List ℕ) (k : ℕ) → k < length ls → length ps ≡ length ls
    → lines_left w place ls ps k ≡ line_text (place + k) (byte_answer w (get_or ls k 0) (get_or ps k 0)) ++ lines_left w place ls ps (k + 1)
lines_again w place ls ps k h e =
    ap₂ (byte_lines w (place + k)) (drop-cons ls k 0 h) (drop-cons ps k 0 (omega arith))
    ∙ ap₂ (λ (m n : ℕ). line_text (place + k) (byte_answer w (get_or ls k 0) (get_or ps k 0)) ++ byte_lines w m (drop n ls) (drop n ps)) (let q : place + k + 1 ≡ place + (k + 1) = omega arith in q) (let q : suc k ≡ k + 1 = omega arith in q)

pub lines_end : (w place : ℕ) (ls ps : List ℕ) (k : ℕ) → length ls ≤ k → lines_left w place ls ps k ≡ []
lines_end w place ls ps k h = ap (λ (l : List ℕ). byte_lines w (place + k) l (drop k ps)) (drop_of_length-le ls h)

-- ---- what a point's two bytes say
module _ (s : Receiver) where
  abbrev Says : Answer → Type 0
  Says a = kind_text (byte_answer (width s.mode) (line_byte a) (plain_byte a)) ≡ kind_text a

  state_says : (o : Reference) (y u : ℕ) → Says (state_answer s o y u)
  unfolding byte_answer state_answer descrambled kind_text
  state_says none y u = refl
  state_says (some x) y u =
      let w : ℕ = width s.mode in
      let g : ℕ = group s.mode (face s.mode x) y in
      let v : ℕ = value (bits w g) in
      let d = descrambled s.mode s.role s.line g in
      let n = length-bits w g in
      let h : v < 2 ^ length (bits w g) = value_small (bits w g) (bits_are w g) in
      let k : 2 ^ length (bits w g) ≤ 2 ^ 4 = pow_mono {j = 4} (omega (arith, n, (width_range s.mode).1)) in
      let l = descrambled_small s.mode s.role s.line g in
      rw (ne_eqb v 16 (λ e. omega arith), ne_eqb v 17 (λ e. omega arith))
      (ap₂ (λ (ls : List ℕ) (ds : List Datum). kind_text (decoded ls ds 0)) (ap (λ (i : ℕ). bits i v) (sym n) ∙ bits-value (bits w g) (bits_are w g))
      (ap₂ (λ (i j : ℕ). marked i (bits w j)) (let q : (16 * d.unsettled.0 + d.plain) / 16 ≡ d.unsettled.0 = omega arith in q)
      (let q : (16 * d.unsettled.0 + d.plain) % 16 ≡ d.plain = omega arith in q) ∙ group_read s.mode s.role s.line g))

  point_says : (p : Point) (d : Region) → Says (point_answer s p d)
  unfolding byte_answer point_answer
  point_says p (State y) = state_says s.reference y (distance s.mode y p)
  point_says p Origin = refl

  byte_answer_lem : (p : Point) → refusal s (point p) ≡ 0 → Says (answer s (point p))
  unfolding answer event_answer
  byte_answer_lem p z =
      subst Says (ap (λ (n : ℕ). accepted n (point_answer s p (decide s.mode p)) (refused n)) (sym z)) (point_says p (decide s.mode p))

bytes_lines : (s : Receiver) (ps : List Point) → EachAccepted s (map point ps)
    → byte_lines (width s.mode) s.place.0 (map line_byte (answers_to s ps)) (map plain_byte (answers_to s ps)) ≡ lines s (map point ps)
unfolding line_text
bytes_lines s [] f = refl
bytes_lines s (p ∷ ps) f =
    let t : Receiver = next s (point p) in
    ap (λ (xs : List Heard). byte_lines (width s.mode) s.place.0 (map line_byte (answers xs)) (map plain_byte (answers xs))) (heard-accepted s (point p) (map point ps) f.0)
    ∙ ap₂ (λ (k l : List ℕ). (decimal s.place.0 ++ (k ++ line_end)) ++ l) (byte_answer_lem s p f.0)
    (ap₂ (λ (w place : ℕ). byte_lines w place (map line_byte (answers_to t ps)) (map plain_byte (answers_to t ps))) (ap width (sym (same_next s (point p)).0)) (sym (accepted-placed s (point p) f.0))
    ∙ bytes_lines t ps f.1)

-- ---- the block
first_passes : (s : Receiver) (ps : List Point) → 1 ≤ length ps → EachAccepted s (map point ps) → (state_refusal s ≡ 0) × (s.place.0 ≤ 4294967295)
first_passes s [] h f = absurd (omega arith)
first_passes s (p ∷ ps) h f = (no_refusal s (accepted_valid s (point p) f.0), omega (arith, has_place s p f.0))

module _ (r : List ℕ) (n : ℕ) (s : Receiver) (numbers : List ℤ) (e : numbers ≡ numbers_in (drop 4 r) 14) (some : 1 ≤ n) (few : n ≤ 7) (free : EachAccepted s (map taken (points (drop 4 r) n))) where
  abbrev zs : List ℤ
  zs = take (2 * n) numbers

  zs_are : zs ≡ numbers_in (drop 4 r) (2 * n)
  zs_are = ap (take (2 * n)) e ∙ numbers-first (drop 4 r) (2 * n) 14 (omega arith)

  points_are : map taken (points (drop 4 r) n) ≡ map point (pairs zs)
  points_are = numbers-points (drop 4 r) n ∙ ap (λ (l : List ℤ). map point (pairs l)) (sym zs_are)

  zs_long : length zs ≡ 2 * n
  zs_long = ap length zs_are ∙ numbers_long (drop 4 r) (2 * n)

  pairs_long : length (pairs zs) ≡ n
  pairs_long = let l = zs_long in pairs-length zs ∙ (let q : length zs / 2 ≡ n = omega arith in q)

  each_accepted : EachAccepted s (map point (pairs zs))
  each_accepted = subst (EachAccepted s) points_are free

  passes : (state_refusal s ≡ 0) × (s.place.0 ≤ 4294967295)
  passes = first_passes s (pairs zs) (omega (arith, pairs_long)) each_accepted

  pub places : s.place.0 + n ≤ 4294967295
  places = omega (arith, each_has_place s (pairs zs) passes.1 each_accepted, pairs_long)

  -- the bytes of an accepted block, as many as there are points
  first_bytes : (f : Answer → ℕ) (l l' : List ℕ) → length l ≡ 7 → l' ≡ sets l 0 (map f (answers_to s (pairs zs)))
      → take n l' ≡ map f (answers_to s (pairs zs))
  first_bytes f l l' el h =
      let vs : List ℕ = map f (answers_to s (pairs zs)) in
      let heard-long = simp length-map at (ap length (heard_all s (map point (pairs zs)) each_accepted)) in
      let long : length vs ≡ n = simp length-map (heard-long ∙ pairs_long) in
      ap (take n) (h ∙ sets-eq vs l 0 (omega arith)) ∙ take_at vs _ n long

  module _ (b : Parts) (el : length b.line ≡ 7) (ep : length b.plain ≡ 7) (ed : length b.distance ≡ 7) where
    free_block : block_refusal s (in_units zs) (sizes b) ≡ 0
    unfolding lent_ok
    free_block =
        let k = pairs_long in
        at_once s (in_units zs) (sizes b) passes.0 passes.1
        (rw (
          eq-eqb (length zs % 2) 0 (omega (arith, zs_long)),
          le-leb (length (pairs zs)) (length b.line) (omega arith),
          le-leb (length (pairs zs)) (length b.plain) (omega arith),
          le-leb (length (pairs zs)) (length b.distance) (omega arith),
        ) tt) tt each_accepted

    is_taken : block s (in_units zs) (sizes b) ≡ Ok (after s (map point (pairs zs)))
    unfolding block
    is_taken = ap (λ (k : ℕ). answered k (after s (map point (pairs zs)))) free_block

    pub is_taken_lem : (r : Result Receiver Refusal) → r ≡ block s (in_units zs) (sizes b) → r ≡ Ok (after s (map point (pairs zs)))
    is_taken_lem r e = e ∙ is_taken

    pub points_went : {out out' : List ℕ} {at q : ℕ} (c : Parts) (d : Result Receiver Refusal) (t : Receiver) (w : ℕ) → c ≡ parts_after s (in_units zs) b
        → d ≡ block s (in_units zs) (sizes b) → d ≡ Ok t → w ≡ width s.mode → Wrote out at (byte_lines w s.place.0 (take n c.line) (take n c.plain)) out' q
        → Went out at s (map taken (points (drop 4 r) n)) out' (record { at = q; state = t })
    unfolding parts_after
    points_went {out} {out'} {at} {q} c d t w ec eb et ew a =
        let done = is_taken in
        let state : t ≡ after s (map point (pairs zs)) = cc in
        let after_it : c ≡ wrote b 0 (answers_to s (pairs zs)) = ec ∙ ap (λ (k : ℕ). accepted k (wrote b 0 (answers_to s (pairs zs))) b) free_block in
        rw points_are
        (record {
          wrote = wrote_as
              (ap (λ (v : ℕ). byte_lines v s.place.0 (take n c.line) (take n c.plain)) ew
              ∙ ap₂ (byte_lines (width s.mode) s.place.0) (first_bytes line_byte b.line c.line el (ap (λ (p : Parts). p.line) after_it)) (first_bytes plain_byte b.plain c.plain ep (ap (λ (p : Parts). p.plain) after_it))
              ∙ bytes_lines s (pairs zs) each_accepted) a;
          state = state;
        })
