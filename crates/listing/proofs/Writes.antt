-- Runs of bytes written one after the other, and the glyphs of a group of bits. Assumes nothing.
use mathlib.Core.Path.{◌≡◌, refl, sym, ap, ap₂, ◌∙◌}
use mathlib.Core.Bool.{cond}
use mathlib.Core.List.{List, [], ◌∷◌, ◌++◌}
use Prim.Native.Nat.{ℕ, suc, ◌+◌, ◌-◌, ◌/◌, ◌%◌, ◌^◌, ◌≤◌, ◌<◌}
use native.Mathlib.Omega.{arith}
use native.Mathlib.Nat.{add-zero, sub-zero}
use borrow.Author.Tests.{ltb-true, ltb-false, ne_eqb}
use lib.Dec.{ltb}
use lib.ListN.{length, length-append}
use lib.Seq.{sets}
use Rattle.std.proofs.Common.{append_assoc}
use Rattle.line.proofs.Tests.{by_test}
use Rattle.line.proofs.Sets.{sets_then}
use Rattle.scrambler.specs.Bits.{bits}
use Rattle.scrambler.specs.Group.{marked}
use Rattle.receiver.specs.Receiver.{Answer, reference, decoded, lost}
use Rattle.listing.specs.Text.{glyphs, line_glyphs, decimal, numbers_line, bits_are, blank, line_end, kind_text, line_text}
use Rattle.listing.specs.Wrote.{Wrote, byte_answer}

-- one run after another
pub wrote_then : {o o' o'' u v : List ℕ} {at p q : ℕ} → Wrote o at u o' p → Wrote o' p v o'' q → Wrote o at (u ++ v) o'' q
wrote_then {o} {o'} {o''} {u} {v} {at} {p} {q} a b =
    record {
      written = b.written ∙ ap (λ (l : List ℕ). sets l p v) a.written ∙ sets_then u v o at p (sym a.behind);
      behind = omega (arith, a.behind, b.behind, length-append u v);
    }

-- the same bytes by another name
pub wrote_as : {o o' u v : List ℕ} {at p : ℕ} → u ≡ v → Wrote o at u o' p → Wrote o at v o' p
wrote_as {o} {o'} {u} {v} {at} {p} e a =
    record { written = a.written ∙ ap (sets o at) e; behind = a.behind ∙ ap (λ (l : List ℕ). at + length l) e }

-- the line of one number after its words
pub number_wrote : {o o₁ o' : List ℕ} {at p₁ p : ℕ} (words : List ℕ) (n : ℕ) → Wrote o at (words ++ decimal n) o₁ p₁ → Wrote o₁ p₁ line_end o' p
    → Wrote o at (words ++ (decimal n ++ line_end)) o' p
number_wrote words n f e = wrote_as (append_assoc words (decimal n) line_end) (wrote_then f e)

-- three numbers, each after its words
pub numbers_wrote : {o o₁ o₂ o₃ o' : List ℕ} {at p₁ p₂ p₃ p : ℕ} (a : List ℕ) (x : ℕ) (b : List ℕ) (y : ℕ) (c : List ℕ) (z : ℕ) → Wrote o at (a ++ decimal x) o₁ p₁ → Wrote o₁ p₁ (b ++ decimal y) o₂ p₂
    → Wrote o₂ p₂ (c ++ decimal z) o₃ p₃ → Wrote o₃ p₃ line_end o' p → Wrote o at (numbers_line a x b y c z) o' p
unfolding numbers_line
numbers_wrote a x b y c z f s t e = wrote_as (simp append_assoc) (wrote_then f (wrote_then s (wrote_then t e)))

-- what is left to write: `rest` from p on makes `all` from `at` on
pub record Rest (o₀ o : List ℕ) (at p : ℕ) (all rest : List ℕ) : Type 0 where
  pub written : sets o p rest ≡ sets o₀ at all
  pub behind : p + length rest ≡ at + length all

pub rest_all : {o all rest : List ℕ} {at p : ℕ} → p ≡ at → rest ≡ all → Rest o o at p all rest
rest_all e q = rw (e, q) (record { written = refl; behind = refl })

pub rest_then : {o₀ o o' all rest u v : List ℕ} {at p q : ℕ} → Rest o₀ o at p all rest → rest ≡ u ++ v → Wrote o p u o' q → Rest o₀ o' at q all v
rest_then {o₀} {o} {o'} {all} {rest} {u} {v} {at} {p} {q} g e w =
    record {
      written = ap (λ (l : List ℕ). sets l q v) w.written ∙ sets_then u v o p q (sym w.behind) ∙ ap (sets o p) (sym e) ∙ g.written;
      behind = omega (arith, w.behind, g.behind, ap length e, length-append u v);
    }

pub rest_none : {o₀ o all rest : List ℕ} {at p : ℕ} → Rest o₀ o at p all rest → rest ≡ [] → Wrote o₀ at all o p
rest_none {o₀} {o} {all} {rest} {at} {p} g e =
    record { written = sym (ap (sets o p) e) ∙ g.written; behind = omega (arith, g.behind, ap length e) }

-- ---- bits
-- what is left of the bits after k of them
abbrev pub bits_left : ℕ → ℕ → ℕ → ℕ → List ℕ
bits_left w v u k = glyphs (marked (u - k) (bits (w - k) v))

pub bits-start : (o : List ℕ) (at w v u : ℕ) → Rest o o at (at + 0) (glyphs (marked u (bits w v))) (bits_left w v u 0)
bits-start o at w v u = rest_all (add-zero at) (ap₂ (λ (a b : ℕ). glyphs (marked a (bits b v))) (sub-zero u) (sub-zero w))

pub bits_end : (w v u k : ℕ) → w ≤ k → bits_left w v u k ≡ []
bits_end w v u k h = ap (λ (m : ℕ). glyphs (marked (u - k) (bits m v))) (let q : w - k ≡ 0 = omega arith in q)

pub bits-step : (w v u k c : ℕ) → k < w → c ≡ cond (ltb k u) 45 (48 + v / 2 ^ (w - 1 - k) % 2) → bits_left w v u k ≡ c ∷ bits_left w v u (k + 1)
bits-step w v u k c h e =
    ap (λ (m : ℕ). glyphs (marked (u - k) (bits m v))) (let q : w - k ≡ suc (w - (k + 1)) = omega arith in q)
    ∙ by_test (ltb k u)
    (λ t. let l = ltb-true k u t in let q : u - k ≡ suc (u - (k + 1)) = omega arith in rw (q, e, t))
    (λ t.
    let l = ltb-false k u t in
    let z : u - k ≡ 0 = omega arith in
    let y : u - (k + 1) ≡ 0 = omega arith in
    let x : w - (k + 1) ≡ w - 1 - k = omega arith in
    rw (z, y, x, e, t))

-- line bits read as settled ones
pub lines_settled : (bs : List ℕ) → glyphs (marked 0 bs) ≡ line_glyphs bs
lines_settled [] = refl
lines_settled (b ∷ bs) = ap (λ (l : List ℕ). (48 + b) ∷ l) (lines_settled bs)

-- ---- the line of a group of bits, and of a point by its two bytes
pub group-wrote : {o o₁ o₂ o₃ o₄ o₅ o' : List ℕ} {at p₁ p₂ p₃ p₄ p₅ p : ℕ} (place w l d u : ℕ) → Wrote o at (decimal place) o₁ p₁
    → Wrote o₁ p₁ bits_are o₂ p₂ → Wrote o₂ p₂ (glyphs (marked 0 (bits w l))) o₃ p₃ → Wrote o₃ p₃ blank o₄ p₄
    → Wrote o₄ p₄ (glyphs (marked u (bits w d))) o₅ p₅ → Wrote o₅ p₅ line_end o' p
    → Wrote o at (line_text place (decoded (bits w l) (marked u (bits w d)) 0)) o' p
unfolding line_text kind_text
group-wrote place w l d u start a c s e f =
    wrote_then start (wrote_then (wrote_then a (wrote_then (wrote_as (lines_settled (bits w l)) c) (wrote_then s e))) f)

module _ (w l b : ℕ) where
  pub byte_reference : l ≡ 16 → reference 0 ≡ byte_answer w l b
  unfolding byte_answer
  byte_reference e = rw e

  pub byte_lost : l ≡ 17 → lost 1 ≡ byte_answer w l b
  unfolding byte_answer
  byte_lost e = rw e

  pub byte_bits : (l ≡ 16 → ⊥) → (l ≡ 17 → ⊥) → decoded (bits w l) (marked (b / 16) (bits w (b % 16))) 0 ≡ byte_answer w l b
  unfolding byte_answer
  byte_bits h k = rw (ne_eqb l 16 h, ne_eqb l 17 k)

-- a line written for one answer is that of another one, if they are the same
pub put_as : (o o' : List ℕ) (at p place : ℕ) (a b : Answer) → Wrote o at (line_text place a) o' p → a ≡ b → Wrote o at (line_text place b) o' p
put_as o o' at p place a b w e = wrote_as (ap (line_text place) e) w
