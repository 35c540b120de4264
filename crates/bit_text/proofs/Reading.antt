-- What `take_bits` asks, as laws on lists. Assumes nothing.
use Prim.Native.Nat.{ℕ, ◌+◌, ◌-◌, ◌≤◌, ◌<◌}
use mathlib.Core.Path.{◌≡◌, refl, sym, ap, ap₂, ◌∙◌}
use mathlib.Core.Bool.{Bool, true, false, ◌||◌, ◌&&◌, cond}
use mathlib.Core.List.{List, [], ◌∷◌}
use native.Mathlib.Numerals.{add-one}
use native.Mathlib.Omega.{arith}
use borrow.Author.Tests.{le-leb, lt-leb}
use lib.Dec.{leb}
use lib.ListN.{length, get_or, set, drop, drop_of_length-le, length-set}
use lib.Seq.{sets, drop-cons}
use Rattle.line.proofs.Tests.{cond-true, cond-false}
use Rattle.std.specs.Prelude.{Result, Ok, Err}
use Rattle.line.specs.declared.refusal.Refusal.{Refusal}
use Rattle.line.specs.declared.refusal.Refusal.TheVariants.{Lent}
use Rattle.line.specs.Refusal.{named}
use Rattle.bit_text.specs.declared.TextBits.{TextBits}
use Rattle.bit_text.specs.BitText.{is_blank, is_digit, bits_in, whole, text_refusal, text_answer, text_bytes, TextTold}

-- THE LOOP: what is left to do is what was left to do

-- n bits of the first i characters are written
pub record Left (text out₀ out : List ℕ) (n i : ℕ) : Type 0 where
  pub place : i ≤ length text
  pub few : n ≤ i
  pub same : length out ≡ length out₀
  pub room : length text ≤ length out₀
  pub written : sets out n (bits_in (drop i text)) ≡ sets out₀ 0 (bits_in text)
  pub counted : n + length (bits_in (drop i text)) ≡ length (bits_in text)
  pub so_far : whole (drop i text) ≡ whole text

pub left-start : (text out : List ℕ) → length text ≤ length out → Left text out out 0 0
left-start text out h = record { place = omega arith; few = omega arith; same = refl; room = h; written = refl; counted = omega arith; so_far = refl }

drop_more : (l : List ℕ) (i : ℕ) → i < length l → drop i l ≡ get_or l i 0 ∷ drop (i + 1) l
drop_more l i h = drop-cons l i 0 h ∙ ap (λ (k : ℕ). get_or l i 0 ∷ drop k l) (sym (add-one i))

-- what the call gives, by what the tests found
abbrev Ends : List ℕ → List ℕ → Result TextBits Refusal → List ℕ → Type 0
Ends text out₀ r out = (r ≡ text_answer text (length out₀)) × ((out ≡ text_bytes text out₀) × TextTold text (length out₀) r)

pub too_few : (text out : List ℕ) → length out < length text → Ends text out (Err Lent) out
unfolding named text_refusal text_answer text_bytes
too_few text out h =
    let f : leb (length text) (length out) ≡ false = lt-leb (length text) (length out) h in
    (rw f refl, (rw f refl, record { number_is = rw f refl; count_is = rw f refl; all_is = rw f refl }))

-- so many bits, and whether they are of the whole text
abbrev given : ℕ → Bool → Result TextBits Refusal
given n w = Ok (record { count = n; whole = w })

-- what it says
told : (text : List ℕ) (lent : ℕ) (r : Result TextBits Refusal) → leb (length text) lent ≡ true → r ≡ given (length (bits_in text)) (whole text) → TextTold text lent r
unfolding text_refusal
told text lent r f q = rw q (record { number_is = rw f refl; count_is = rw f refl; all_is = rw f refl })

module _ (text out₀ out : List ℕ) (n i : ℕ) (l : Left text out₀ out n i) where
  -- nothing is left to write
  ends : (w : Bool) → w ≡ whole text → bits_in (drop i text) ≡ [] → Ends text out₀ (given n w) out
  unfolding text_refusal text_answer text_bytes
  ends w p e =
      let count : n ≡ length (bits_in text) = omega (arith, l.counted, ap length e) in
      let counted : given n w ≡ given (length (bits_in text)) (whole text) = ap₂ given count p in
      let free : leb (length text) (length out₀) ≡ true = le-leb (length text) (length out₀) l.room in
      (rw free counted, (rw free (sym (ap (sets out n) e) ∙ l.written), told text (length out₀) (given n w) free counted))

  pub read_all : length text ≤ i → Ends text out₀ (given n true) out
  read_all h =
      let z : drop i text ≡ [] = drop_of_length-le text h in
      ends true (sym (ap whole z) ∙ l.so_far) (ap bits_in z)

  -- the next character
  module _ (d : Bool) (h : i < length text) (ed : d ≡ is_digit (get_or text i 0)) where
    head : drop i text ≡ get_or text i 0 ∷ drop (i + 1) text
    head = drop_more text i h

    pub in_room : n < length out
    in_room = omega (arith, l.few, l.same, l.room)

    pub next_digit : (out' : List ℕ) (n' : ℕ) → d ≡ true → out' ≡ set out n (get_or text i 0 - 48) → n' ≡ n + 1 → Left text out₀ out' n' (i + 1)
    next_digit out' n' t eo en =
        rw (eo, en) (record {
          place = omega arith;
          few = omega (arith, l.few);
          same = length-set out n (get_or text i 0 - 48) ∙ l.same;
          room = l.room;
          written = ap (λ (k : ℕ). sets (set out n (get_or text i 0 - 48)) k (bits_in (drop (i + 1) text))) (add-one n) ∙ sym (ap (sets out n) bits) ∙ l.written;
          counted = omega (arith, l.counted, ap length bits);
          so_far = sym (ap whole head ∙ ap (λ (b : Bool). (b || is_blank (get_or text i 0)) && whole (drop (i + 1) text)) is) ∙ l.so_far;
        })
      where
        is : is_digit (get_or text i 0) ≡ true
        is = sym ed ∙ t

        bits : bits_in (drop i text) ≡ (get_or text i 0 - 48) ∷ bits_in (drop (i + 1) text)
        bits = ap bits_in head ∙ cond-true (is_digit (get_or text i 0)) _ _ is

    module _ (s : Bool) (f : d ≡ false) (es : s ≡ is_blank (get_or text i 0)) where
      no : is_digit (get_or text i 0) ≡ false
      no = sym ed ∙ f

      not_digit : bits_in (drop i text) ≡ cond s (bits_in (drop (i + 1) text)) []
      not_digit = ap bits_in head ∙ cond-false (is_digit (get_or text i 0)) _ _ no ∙ ap (λ (b : Bool). cond b (bits_in (drop (i + 1) text)) []) (sym es)

      none : whole (drop i text) ≡ s && whole (drop (i + 1) text)
      none = ap whole head ∙ ap₂ (λ (a b : Bool). (a || b) && whole (drop (i + 1) text)) no (sym es)

      pub next-blank : (out' : List ℕ) (n' : ℕ) → s ≡ true → out' ≡ out → n' ≡ n → Left text out₀ out' n' (i + 1)
      next-blank out' n' t eo en =
          let bits : bits_in (drop i text) ≡ bits_in (drop (i + 1) text) = not_digit ∙ cond-true s _ _ t in
          rw (eo, en) (record {
            place = omega arith;
            few = omega (arith, l.few);
            same = l.same;
            room = l.room;
            written = sym (ap (sets out n) bits) ∙ l.written;
            counted = omega (arith, l.counted, ap length bits);
            so_far = sym (none ∙ ap (λ (b : Bool). b && whole (drop (i + 1) text)) t) ∙ l.so_far;
          })

      pub ended : s ≡ false → Ends text out₀ (given n false) out
      ended t = ends false (sym (none ∙ ap (λ (b : Bool). b && whole (drop (i + 1) text)) t) ∙ l.so_far) (not_digit ∙ cond-false s _ _ t)
