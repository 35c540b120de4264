-- What the loops ask, as laws on lists. Assumes nothing.
use Prim.Native.Nat.{ℕ, ◌+◌, ◌-◌, ◌%◌, ◌^◌, ◌≤◌, ◌<◌}
use mathlib.Core.Path.{◌≡◌, refl, sym, ap, ap₂, ◌∙◌, subst}
use mathlib.Core.Bool.{and-true}
use mathlib.Core.List.{List, [], ◌∷◌, ◌++◌}
use native.Mathlib.Omega.{arith}
use lib.Dec.{T}
use lib.ListN.{length, get_or, take, drop, length-append}
use Rattle.std.proofs.lemmas.List.{take_at, drop_at}
use lib.Pow.{pow_mono}
use lib.Seq.{drop-drop, take_all, length-take-le}
use Rattle.line.specs.Table.{every}
use Rattle.line.proofs.TableLaws.{every_take, every_drop, every-placed}
use Rattle.scrambler.specs.Bits.{is_bit, bits, value}
use Rattle.scrambler.proofs.BitLaws.{value_small, bits-value}
use Rattle.v41.specs.Register.{register}
use Rattle.v41.proofs.RegisterLaws.{register_append}
use Rattle.v41.proofs.Theorems.{are_bits}

-- a byte of bits
pub bit_at : (l : List ℕ) (i : ℕ) → i < length l → T (every is_bit l) → get_or l i 0 < 2
bit_at l i h t = (are_bits (get_or l i 0 ∷ []) (one (get_or l i 0) (every-placed is_bit 0 i l h t))).0
  where
    one : (b : ℕ) → T (is_bit b) → T (every is_bit (b ∷ []))
    one b t = subst T (sym (and-true (is_bit b))) t

-- `number_of`
pub number_small : (l : List ℕ) (k : ℕ) → k ≤ length l → length l ≤ 8 → T (every is_bit l) → value (take k l) < 256
number_small l k h b t =
    let v : value (take k l) < 2 ^ length (take k l) = value_small (take k l) (every_take is_bit k l t) in
    let p : 2 ^ length (take k l) ≤ 2 ^ 8 = pow_mono {j = 8} (omega (arith, length-take-le k l h)) in
    omega arith

pub number_end : (l : List ℕ) (k v : ℕ) → length l ≤ k → v ≡ value (take k l) → v ≡ value l
number_end l k v h e = e ∙ ap value (take_all k l h)

-- `divide`: what is left of a list of which eights were taken from the front
pub record Eights (l rest : List ℕ) : Type 0 where
  pub within : length rest ≤ length l
  pub is : rest ≡ drop (length l - length rest) l
  pub same : length rest % 8 ≡ length l % 8

pub eights_begun : (l : List ℕ) → Eights l l
eights_begun l = record { within = omega arith; is = sym (ap (λ (k : ℕ). drop k l) (let z : length l - length l ≡ 0 = omega arith in z)); same = refl }

-- the next eight are bits, too
pub eight_bits : (l rest x more : List ℕ) → T (every is_bit l) → Eights l rest → rest ≡ x ++ more → T (every is_bit x)
eight_bits l rest x more t e p =
    let d : T (every is_bit rest) = subst (λ (s : List ℕ). T (every is_bit s)) (sym e.is) (every_drop is_bit (length l - length rest) l t) in
    subst (λ (s : List ℕ). T (every is_bit s)) (ap (take (length x)) p ∙ take_at x more (length x) refl) (every_take is_bit (length x) rest d)

pub eights_more : (l rest x more : List ℕ) → Eights l rest → rest ≡ x ++ more → length x ≡ 8 → Eights l more
eights_more l rest x more e p n =
    let long : length rest ≡ 8 + length more = ap length p ∙ length-append x more ∙ ap (λ (k : ℕ). k + length more) n in
    let within : length rest ≤ length l = e.within in
    let same : length rest % 8 ≡ length l % 8 = e.same in
    record {
      within = omega arith;
      is = sym (ap (drop (length x)) p ∙ drop_at x more (length x) refl) ∙ ap (drop (length x)) e.is ∙ drop-drop (length x) (length l - length rest) l
          ∙ ap (λ (k : ℕ). drop k l) (let z : length l - length rest + length x ≡ length l - length more = omega arith in z);
      same = omega arith;
    }

-- the register after the next eight
pub eights_go : (x more rest : List ℕ) (r q v all : ℕ) → T (every is_bit x) → rest ≡ x ++ more → length x ≡ 8 → v ≡ value x → q ≡ register r (bits 8 v) → register r rest ≡ all → register q more ≡ all
eights_go x more rest r q v all t p n e s a =
    ap (λ (k : ℕ). register k more) (s ∙ ap (register r) (ap₂ bits (sym n) e ∙ bits-value x t)) ∙ sym (register_append x more r) ∙ ap (register r) (sym p) ∙ a

-- what is left when no eight are
pub eights_end : (l rest : List ℕ) → Eights l rest → length rest < 8 → rest ≡ drop (length l - length l % 8) l
eights_end l rest e h = e.is ∙ ap (λ (k : ℕ). drop (length l - k) l) (let z : length rest ≡ length l % 8 = omega arith in z)
