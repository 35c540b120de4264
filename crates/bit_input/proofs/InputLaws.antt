-- The bits of what was read, behind those that were there. Assumes nothing.
use Prim.Native.Nat.{ℕ, ◌+◌, ◌-◌, ◌≤◌, min}
use mathlib.Core.Path.{◌≡◌, sym, ap, subst, ◌∙◌}
use mathlib.Core.Bool.{false, not}
use mathlib.Core.List.{List, ◌++◌, append-nil}
use native.Mathlib.Omega.{arith}
use borrow.Author.Tests.{leb-true}
use borrow.Rule.Slice.PartMut.{put_mid, take_put, Post-is}
use lib.Dec.{leb}
use lib.ListN.{length, take, drop, length-take, length-drop, drop_of_length-le}
use lib.Seq.{take_all, length-take-le, drop_at}
use Rattle.line.proofs.Tests.{by_test}
use Rattle.std.specs.Prelude.{Result, Ok, Err}
use Rattle.std.specs.Result.{result_unwrap_or}
use Rattle.line.specs.declared.refusal.Refusal.{Refusal}
use Rattle.bit_text.specs.declared.TextBits.{TextBits}
use Rattle.bit_text.specs.BitText.{text_refusal, text_answer, text_bytes, bit_count, took_all}
use Rattle.bit_text.proofs.TextLaws.{fits}
use Rattle.bit_input.specs.declared.BitsCame.{BitsCame}
use Rattle.bit_input.specs.Input.{BitsBehind}

-- what was given, and nothing where the call was refused
module _ (g : TextBits) where
  pub count_given : (r : Result TextBits Refusal) → g ≡ result_unwrap_or r (record { count = 0; whole = false }) → g.count ≡ bit_count r
  count_given (Ok t) e = ap (λ (x : TextBits). x.count) e
  count_given (Err f) e = ap (λ (x : TextBits). x.count) e

  pub whole_given : (r : Result TextBits Refusal) → g ≡ result_unwrap_or r (record { count = 0; whole = false }) → g.whole ≡ took_all r
  whole_given (Ok t) e = ap (λ (x : TextBits). x.whole) e
  whole_given (Err f) e = ap (λ (x : TextBits). x.whole) e

-- no more bits than lent bytes
pub count_fits : (t : List ℕ) (lent : ℕ) → bit_count (text_answer t lent) ≤ lent
unfolding text_answer text_refusal
count_fits t lent =
    by_test (leb (length t) lent)
    (λ e. rw e (omega (arith, fits t, leb-true (length t) lent e)))
    (λ e. rw e (omega arith))

pub count_of_fits : (n : ℕ) (t bits : List ℕ) (at : ℕ) → n ≡ bit_count (text_answer t (length (take (length bits - at) (drop at bits)))) → n ≤ length bits - at
count_of_fits n t bits at e =
    let lent = take (length bits - at) (drop at bits) in
    omega (arith, e, count_fits t (length lent), length-take (length bits - at) (drop at bits))

-- the bytes behind the place, as they are lent
part_is : (bits : List ℕ) (at : ℕ) → take (length bits - at) (drop at bits) ≡ drop at bits
part_is bits at = take_all (length bits - at) (drop at bits) (omega (arith, length-drop at bits))

-- what was written into them stands behind the place
put_behind : (bits ys : List ℕ) (at : ℕ) → at ≤ length bits → drop at (put_mid at (length bits - at) bits ys) ≡ ys
put_behind bits ys at h =
    drop_at (take at bits) _ at (length-take-le at bits h)
    ∙ ap (λ z. ys ++ z) (Post-is at (length bits) bits h ∙ drop_of_length-le bits {i = length bits} (omega arith))
    ∙ append-nil ys

pub bits-behind : (have : ℕ) (text bits ys : List ℕ) (at : ℕ) (given : Result TextBits Refusal) (r : BitsCame)
    → at ≡ min have (length bits) → r.characters ≤ length text
    → given ≡ text_answer (take r.characters text) (length (take (length bits - at) (drop at bits)))
    → ys ≡ text_bytes (take r.characters text) (take (length bits - at) (drop at bits))
    → r.count ≡ at + bit_count given → r.other ≡ not (took_all given)
    → BitsBehind have text bits (put_mid at (length bits - at) bits ys) r
bits-behind have text bits ys at given r e n g w c o =
    let t = take r.characters text in
    let h : at ≤ length bits = omega arith in
    let lent : length (take (length bits - at) (drop at bits)) ≡ length bits - at = ap length (part_is bits at) ∙ length-drop at bits in
    let g' : given ≡ text_answer t (length bits - at) = g ∙ ap (text_answer t) lent in
    let f : bit_count given ≤ length bits - at = subst (λ (x : Result TextBits Refusal). bit_count x ≤ length bits - at) (sym g') (count_fits t (length bits - at)) in
    record {
      characters = n;
      count = rw (← e) (c ∙ ap (λ x. at + bit_count x) g');
      other = rw (← e) (o ∙ ap (λ x. not (took_all x)) g');
      kept = rw (← e) (take_put at (length bits - at) bits ys h);
      written = rw (← e) (put_behind bits ys at h ∙ w ∙ ap (text_bytes t) (part_is bits at));
      within = omega arith;
    }
