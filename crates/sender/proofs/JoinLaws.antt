-- Sending two inputs one after the other writes what sending them together writes. Assumes nothing.
use Prim.Native.Nat.{ℕ, zero, suc, ◌+◌, ◌*◌, ◌/◌, ◌%◌, ◌<◌, ◌≤◌}
use mathlib.Core.Path.{◌≡◌, refl, sym, ◌∙◌, ap, ap₂, subst}
use mathlib.Core.Bool.{Bool, true}
use mathlib.Core.List.{List, [], ◌∷◌, ◌++◌}
use native.Mathlib.Nat.{zero-add, zero-mul, suc-add, suc-mul, suc-ne-zero, mul-add-div_right, mul-add-mod_self_right}
use native.Mathlib.Omega.{arith}
use borrow.Author.Tests.{eq-eqb, le-leb}
use lib.Dec.{T, eqb, leb}
use lib.IntN.{ℤ}
use Rattle.line.specs.Point.{sent_point}
use lib.ListN.{set, length, drop, length-drop, length-append}
use lib.Seq.{sets, length-sets, take-append-le, drop-append-le}
use Rattle.line.specs.Table.{every}
use Rattle.line.specs.Mode.{width}
use Rattle.line.specs.Refusal.{answered, or_next}
use Rattle.line.proofs.ByMode.{width_range}
use Rattle.line.proofs.TableLaws.{every_append}
use Rattle.line.proofs.RefusalLaws.{need_intro}
use Rattle.scrambler.specs.Bits.{is_bit}
use Rattle.training.specs.Coder.{numbers}
use Rattle.sender.specs.declared.Sender.{Sender}
use Rattle.std.specs.Prelude.{Ok}
use Rattle.sender.specs.Sender.{has_room, data_refusal, send_refusal, groups, grouped, after_group, after_groups, sent_states, send_answer, send_numbers}
use Rattle.sender.specs.Calls.{SentTogether}
use Rattle.sender.proofs.RefusalLaws.{StateOk, state_accepted, DataOk, send_ok}
use Rattle.sender.proofs.SendLaws.{group_mode}
use Rattle.sender.proofs.StateLaws.{whole_length}

-- GROUPS OF TWO INPUTS

groups_append : (w n k : ℕ) (ds es : List ℕ) → length ds ≡ n * w → groups w (n + k) (ds ++ es) ≡ groups w n ds ++ groups w k es
groups_append w zero k [] es h = rw zero-add
groups_append w zero k (x ∷ ds) es h = absurd (suc-ne-zero (length ds) (h ∙ zero-mul w))
groups_append w (suc n) k ds es h =
    let l : length ds ≡ n * w + w = h ∙ suc-mul n w in
    let m : w ≤ length ds = omega arith in
    let r : length (drop w ds) ≡ n * w = simp length-drop (omega arith) in
    rw (suc-add, take-append-le w ds es m, drop-append-le w ds es m, groups_append w n k (drop w ds) es r)

module _ (w : ℕ) (ds es : List ℕ) (p : 0 < w) (h : length ds % w ≡ 0) where
  count : length (ds ++ es) ≡ length ds / w * w + length es
  count = length-append ds es ∙ ap (λ (x : ℕ). x + length es) (whole_length w ds h)

  pub points_append : length (ds ++ es) / w ≡ length ds / w + length es / w
  points_append = ap (λ (x : ℕ). x / w) count ∙ mul-add-div_right p (length ds / w) (length es)

  rest_append : length (ds ++ es) % w ≡ length es % w
  rest_append = ap (λ (x : ℕ). x % w) count ∙ mul-add-mod_self_right (length ds / w) w (length es)

  pub grouped_append : grouped w (ds ++ es) ≡ grouped w ds ++ grouped w es
  unfolding grouped
  grouped_append = rw points_append (groups_append w (length ds / w) (length es / w) ds es (whole_length w ds h))

pub after_append : (s : Sender) (gs hs : List (List ℕ)) → after_groups s (gs ++ hs) ≡ after_groups (after_groups s gs) hs
after_append s [] hs = refl
after_append s (g ∷ gs) hs = after_append (after_group s g) gs hs

states_append : (s : Sender) (gs hs : List (List ℕ)) → sent_states s (gs ++ hs) ≡ sent_states s gs ++ sent_states (after_groups s gs) hs
states_append s [] hs = refl
states_append s (g ∷ gs) hs = ap (λ (l : List ℕ). (after_group s g).reference ∷ l) (states_append (after_group s g) gs hs)

after_mode : (s : Sender) (gs : List (List ℕ)) → (after_groups s gs).mode ≡ s.mode
after_mode s [] = refl
after_mode s (g ∷ gs) = after_mode (after_group s g) gs ∙ group_mode s g

-- the numbers of two runs of states, one after the other
sets-states : (m : ℕ) (out : List ℤ) (k : ℕ) (ss us : List ℕ) → sets out k (numbers m (ss ++ us)) ≡ sets (sets out k (numbers m ss)) (k + 2 * length ss) (numbers m us)
sets-states m out k [] us = ap (λ (i : ℕ). sets out i (numbers m us)) (let e : k ≡ k + 2 * 0 = omega arith in e)
sets-states m out k (s ∷ ss) us =
    sets-states m (set (set out k (sent_point m s).re) (suc k) (sent_point m s).im) (suc (suc k)) ss us
    ∙ ap (λ (i : ℕ). sets (sets out k (numbers m (s ∷ ss))) i (numbers m us)) (let e : suc (suc k) + 2 * length ss ≡ k + 2 * suc (length ss) = omega arith in e)

length-states : (s : Sender) (gs : List (List ℕ)) → length (sent_states s gs) ≡ length gs
length-states s [] = refl
length-states s (g ∷ gs) = ap suc (length-states (after_group s g) gs)

length-groups : (w n : ℕ) (ds : List ℕ) → length (groups w n ds) ≡ n
length-groups w zero ds = refl
length-groups w (suc n) ds = ap suc (length-groups w n (drop w ds))

pub length-grouped : (w : ℕ) (ds : List ℕ) → length (grouped w ds) ≡ length ds / w
unfolding grouped
length-grouped w ds = length-groups w (length ds / w) ds

-- CALLS

is_T : {b : Bool} → b ≡ true → T b
is_T e = subst T (sym e) tt

-- a call that meets all needs is accepted
pub send_met : (s : Sender) (ds : List ℕ) (lent offset : ℕ) → StateOk s → DataOk s.mode ds lent offset → send_refusal s ds lent offset ≡ 0
unfolding send_refusal data_refusal has_room
send_met s ds lent offset k l =
    ap (λ (n : ℕ). or_next n (data_refusal s.mode ds lent offset)) (state_accepted s k)
    ∙ need_intro (every is_bit ds) 5 _ l.are_bits
    (need_intro (eqb (length ds % width s.mode) 0) 6 _ (is_T (eq-eqb _ _ l.whole))
    (need_intro (leb (offset + 2 * (length ds / width s.mode)) lent) 7 _ (is_T (le-leb _ _ l.room)) refl))

-- what an answer that hands back a state says
pub record Accepted (s : Sender) (ds : List ℕ) (lent offset : ℕ) (t : Sender) : Type 0 where
  pub none : send_refusal s ds lent offset ≡ 0
  pub after : t ≡ after_groups s (grouped (width s.mode) ds)

pub accepted-call : (s : Sender) (ds : List ℕ) (lent offset : ℕ) (t : Sender) → send_answer s ds lent offset ≡ Ok t → Accepted s ds lent offset t
unfolding send_answer
accepted-call s ds lent offset t = go (send_refusal s ds lent offset) refl
  where
    go : (n : ℕ) → send_refusal s ds lent offset ≡ n → answered n (after_groups s (grouped (width s.mode) ds)) ≡ Ok t → Accepted s ds lent offset t
    go zero z e = record { none = z; after = cc }
    go (suc n) z e = absurd (let q : ◌≡◌ {A = ℕ} 0 1 = cc in omega arith)

pub answer_met : (s : Sender) (ds : List ℕ) (lent offset : ℕ) → send_refusal s ds lent offset ≡ 0 → send_answer s ds lent offset ≡ Ok (after_groups s (grouped (width s.mode) ds))
unfolding send_answer
answer_met s ds lent offset z = rw z

pub numbers_met : (s : Sender) (ds : List ℕ) (out : List ℤ) (offset : ℕ) → send_refusal s ds (length out) offset ≡ 0
    → send_numbers s ds out offset ≡ sets out offset (numbers s.mode (sent_states s (grouped (width s.mode) ds)))
unfolding send_numbers
numbers_met s ds out offset z = rw z

-- the second call goes on where the first one ended
pub sent_together : SentTogether
sent_together s t u ds es out offset p q =
    let w : ℕ = width s.mode in
    let a = accepted-call s ds (length out) offset t p in
    let b = accepted-call t es (length (send_numbers s ds out offset)) (offset + 2 * (length ds / w)) u q in
    let m : t.mode ≡ s.mode = ap (λ (x : Sender). x.mode) a.after ∙ after_mode s (grouped w ds) in
    let k = send_ok s ds (length out) offset a.none in
    let l = (send_ok t es (length (send_numbers s ds out offset)) (offset + 2 * (length ds / w)) b.none).1 in
    let n = numbers_met s ds out offset a.none in
    let size : length (send_numbers s ds out offset) ≡ length out = ap length n ∙ length-sets out offset (numbers s.mode (sent_states s (grouped w ds))) in
    let pos-w : 0 < w = omega (arith, width_range s.mode) in
    let whole-es : length es % w ≡ 0 = ap (λ (x : ℕ). length es % width x) (sym m) ∙ l.whole in
    let room-es : offset + 2 * (length ds / w) + 2 * (length es / w) ≤ length out =
    subst (λ (x : ℕ). offset + 2 * (length ds / w) + 2 * (length es / w) ≤ x) size
    (subst (λ (x : ℕ). offset + 2 * (length ds / w) + 2 * (length es / width x) ≤ length (send_numbers s ds out offset)) m l.room) in
    let both : DataOk s.mode (ds ++ es) (length out) offset =
    record {
      are_bits = every_append is_bit ds es k.1.are_bits l.are_bits;
      whole = rest_append w ds es pos-w k.1.whole ∙ whole-es;
      room = omega (arith, points_append w ds es pos-w k.1.whole);
    } in
    let z = send_met s (ds ++ es) (length out) offset k.0 both in
    let g = grouped_append w ds es pos-w k.1.whole in
    let e : grouped (width t.mode) es ≡ grouped w es = ap (λ (x : ℕ). grouped (width x) es) m in (
      answer_met s (ds ++ es) (length out) offset z
          ∙ ap Ok (ap (after_groups s) g ∙ after_append s (grouped w ds) (grouped w es)
          ∙ ap₂ after_groups (sym a.after) (sym e) ∙ sym b.after),
      numbers_met s (ds ++ es) out offset z
          ∙ ap (λ (x : List (List ℕ)). sets out offset (numbers s.mode (sent_states s x))) g
          ∙ ap (λ (x : List ℕ). sets out offset (numbers s.mode x)) (states_append s (grouped w ds) (grouped w es))
          ∙ sets-states s.mode out offset (sent_states s (grouped w ds)) (sent_states (after_groups s (grouped w ds)) (grouped w es))
          ∙ ap₂ (λ (x : List ℤ) (i : ℕ). sets x (offset + 2 * i) (numbers s.mode (sent_states (after_groups s (grouped w ds)) (grouped w es)))) (sym n)
          (length-states s (grouped w ds) ∙ length-grouped w ds)
          ∙ ap₂ (λ (x : Sender) (y : List (List ℕ)). sets (send_numbers s ds out offset) (offset + 2 * (length ds / w)) (numbers s.mode (sent_states x y))) (sym a.after) (sym e)
          ∙ ap (λ (x : ℕ). sets (send_numbers s ds out offset) (offset + 2 * (length ds / w)) (numbers x (sent_states t (grouped (width t.mode) es)))) (sym m)
          ∙ sym (numbers_met t es (send_numbers s ds out offset) (offset + 2 * (length ds / w)) b.none),
    )
