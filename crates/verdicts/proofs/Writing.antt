-- What the functions that write lines ask, as laws. Assumes nothing.
use Prim.Native.Nat.{ℕ, suc, ◌+◌, ◌-◌, ◌*◌, ◌/◌, ◌≤◌, ◌<◌}
use mathlib.Core.Path.{◌≡◌, refl, sym, ap, ap₂, ◌∙◌}
use mathlib.Core.Bool.{Bool, false, cond}
use mathlib.Core.List.{List, [], ◌++◌}
use native.Mathlib.Omega.{arith}
use lib.ListN.{length, take, drop, length-append}
use Rattle.std.proofs.lemmas.List.{take_at, drop_at}
use lib.Seq.{sets, length-sets}
use Rattle.std.specs.Counts.{IsPrefixLen}
use Rattle.io.specs.Digits.{IsDigitCount}
use Rattle.io.specs.Digits.{last_digits as written}
use Rattle.line.proofs.Sets.{sets_then}
use Rattle.std.specs.Prelude.{Result, Ok, Err}
use Rattle.std.specs.Result.{result_unwrap_or}
use Rattle.line.specs.declared.refusal.Refusal.{Refusal}
use Rattle.v41.specs.Block.{check_answer, is_accepted}
use Rattle.verdicts.specs.declared.Lines.{Lines}
use Rattle.verdicts.specs.Verdicts.{whole_word, broken_word, decimal, verdict, line, text, taken, text_lines}
use Rattle.verdicts.proofs.Digits.{twenty, decimal_written}
use Rattle.verdicts.proofs.TextLaws.{blocks_step, text-step, text_none, word_long}

-- some bytes stand at `at`, and p is the place behind them
abbrev Put : List ℕ → ℕ → List ℕ → List ℕ → ℕ → Type 0
Put out at vs out' p = (out' ≡ sets out at vs) × (p ≡ at + length vs)

-- the same, with at most k bytes
abbrev PutMost : ℕ → List ℕ → ℕ → List ℕ → List ℕ → ℕ → Type 0
PutMost k out at vs out' p = (out' ≡ sets out at vs) × (p ≡ at + length vs) × (p ≤ at + k)

-- `put_verdict`
unwrapped : (r : Result Bool Refusal) → result_unwrap_or r false ≡ is_accepted r
unwrapped (Ok v) = refl
unwrapped (Err e) = refl

pub verdict_put : (b out out' : List ℕ) (at p : ℕ) (r : Result Bool Refusal) → r ≡ check_answer b → (w : Bool) → w ≡ result_unwrap_or r false → (v : Bool) → w ≡ v
    → Put out at (cond v whole_word broken_word) out' p → PutMost 8 out at (verdict b) out' p
unfolding verdict
verdict_put b out out' at p r e w u v q k =
    let is : cond v whole_word broken_word ≡ verdict b = ap (λ (t : Bool). cond t whole_word broken_word) (sym q ∙ u ∙ unwrapped r ∙ ap is_accepted e) in
    (k.0 ∙ ap (sets out at) is, k.1 ∙ ap (λ (l : List ℕ). at + length l) is, omega (arith, k.1, word_long v))

-- `put_line`
module _ (n k : ℕ) (d : List ℕ) (c : IsPrefixLen k d) (f : IsDigitCount 10 1 n k) (e : take k d ≡ written 10 k n) (h : n < 18446744073709551616) where
  spelt : take k d ≡ decimal n
  spelt = e ∙ decimal_written n k f h

  pub digits_fit : length (take k d) ≤ 20
  digits_fit = omega (arith, c.1, twenty n k f h)

  pub line_put : (b out out' out'' : List ℕ) (at p q : ℕ) → Put out at (take k d) out' p → PutMost 8 out' p (verdict b) out'' q → PutMost 28 out at (line n b) out'' q
  unfolding line
  line_put b out out' out'' at p q u v = (
    v.0 ∙ ap (λ (o : List ℕ). sets o p (verdict b)) u.0 ∙ sets_then (take k d) (verdict b) out at p (sym u.1) ∙ ap (λ (t : List ℕ). sets out at (t ++ verdict b)) spelt,
    omega (arith, v.1, u.1, ap length spelt, length-append (decimal n) (verdict b)),
    omega (arith, v.2, u.1, digits_fit),
  )

-- `put_lines`: what is left to do is what was left to do

-- the lines of the bits before `rest` stand before `at`; its first bit has the place `first`
pub record Left (size place : ℕ) (input out₀ out : List ℕ) (at first : ℕ) (rest : List ℕ) : Type 0 where
  pub within : first + length rest ≡ place + length input
  pub same : length out ≡ length out₀
  pub room : at + 28 * (length rest / size) ≤ length out₀
  pub lines : sets out at (text size first rest) ≡ sets out₀ 0 (text size place input)
  pub counted : at + length (text size first rest) ≡ length (text size place input)

module _ (size place : ℕ) (input out₀ : List ℕ) where
  pub left-start : 28 * (length input / size) ≤ length out₀ → Left size place input out₀ out₀ 0 place input
  left-start h = record { within = refl; same = refl; room = omega arith; lines = refl; counted = omega arith }

  module _ (some : 0 < size) (out : List ℕ) (at first : ℕ) (rest : List ℕ) (l : Left size place input out₀ out at first rest) where
    module _ (block more : List ℕ) (e : rest ≡ block ++ more) (n : length block ≡ size) where
      long : length rest ≡ size + length more
      long = ap length e ∙ length-append block more ∙ ap (λ (k : ℕ). k + length more) n

      one_less : length rest / size ≡ suc (length more / size)
      one_less =
          let q = long in
          blocks_step size some (length rest) (omega arith) ∙ ap (λ (k : ℕ). suc (k / size)) (let z : length rest - size ≡ length more = omega arith in z)

      pub line_room : at + 28 ≤ length out
      line_room = omega (arith, l.room, l.same, one_less)

      pub place_fits : first + size ≤ place + length input
      place_fits = omega (arith, l.within, long)

      here : text size first rest ≡ line first block ++ text size (first + size) more
      here =
          let q = long in
          text-step size some first rest (omega arith)
          ∙ ap₂ (λ (b c : List ℕ). line first b ++ text size (first + size) c) (ap (take size) e ∙ take_at block more size n) (ap (drop size) e ∙ drop_at block more size n)

      pub left-next : (out' : List ℕ) (at' : ℕ) → PutMost 28 out at (line first block) out' at' → Left size place input out₀ out' at' (first + size) more
      left-next out' at' w =
          let ln : List ℕ = line first block in
          let after : List ℕ = text size (first + size) more in
          record {
            within = omega (arith, l.within, long);
            same = ap length w.0 ∙ length-sets out at ln ∙ l.same;
            room = omega (arith, l.room, one_less, w.2);
            lines = ap (λ (o : List ℕ). sets o at' after) w.0 ∙ sets_then ln after out at at' (sym w.1) ∙ sym (ap (sets out at) here) ∙ l.lines;
            counted = omega (arith, l.counted, w.1, ap length here, length-append ln after);
          }

    pub left_none : (n : ℕ) → length rest < n → n ≡ size
        → ◌≡◌ {A = Lines} (record { written = at; taken = length input / size * size }) (text_lines size place input) × (out ≡ sets out₀ 0 (text size place input))
    unfolding taken
    left_none n h e =
        let none : text size first rest ≡ [] = text_none size some first rest (let z : length rest < size = omega arith in z) in
        let count : at ≡ length (text size place input) = omega (arith, l.counted, ap length none) in
        (λ i. record { written = count i; taken = length input / size * size }, sym (ap (sets out at) none) ∙ l.lines)
