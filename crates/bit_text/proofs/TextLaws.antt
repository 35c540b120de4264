-- The bits of a text, and of a text in two blocks. Assumes nothing.
use Prim.Native.Nat.{ℕ, ◌-◌, ◌≤◌, ◌<◌}
use mathlib.Core.Path.{◌≡◌, refl, sym, ap}
use mathlib.Core.Bool.{Bool, true, false, ◌||◌, false≢true}
use mathlib.Core.List.{List, [], ◌∷◌}
use native.Mathlib.Omega.{arith}
use borrow.Author.Tests.{eqb-true}
use lib.Dec.{T, eqb, lt→ltb}
use Rattle.line.specs.Table.{every}
use Rattle.line.proofs.TableLaws.{and_intro}
use Rattle.line.proofs.Tests.{by_test}
use Rattle.scrambler.specs.Bits.{is_bit}
use Rattle.bit_text.specs.BitText.{is_blank, is_digit, bits_in}
use Rattle.bit_text.specs.Laws.{Joined, InBlocks, OfBits, Fits}

pub in_blocks : InBlocks
in_blocks [] b = record { bits_on = λ e. refl; whole_on = λ e. refl; bits_ended = λ e. absurd (false≢true (sym e)); whole_ended = λ e. absurd (false≢true (sym e)) }
in_blocks (c ∷ a) b = go (is_digit c) (is_blank c) refl refl (in_blocks a b)
  where
    go : (d s : Bool) → is_digit c ≡ d → is_blank c ≡ s → Joined a b → Joined (c ∷ a) b
    go true s p q rest = record {
      bits_on = rw p (λ e. ap (λ (l : List ℕ). (c - 48) ∷ l) (rest.bits_on e));
      whole_on = rw p (λ e. rest.whole_on e);
      bits_ended = rw p (λ e. ap (λ (l : List ℕ). (c - 48) ∷ l) (rest.bits_ended e));
      whole_ended = rw p (λ e. rest.whole_ended e);
    }
    go false true p q rest = record {
      bits_on = rw (p, q) (λ e. rest.bits_on e);
      whole_on = rw (p, q) (λ e. rest.whole_on e);
      bits_ended = rw (p, q) (λ e. rest.bits_ended e);
      whole_ended = rw (p, q) (λ e. rest.whole_ended e);
    }
    go false false p q rest = record {
      bits_on = rw (p, q) (λ e. absurd (false≢true e));
      whole_on = rw (p, q) (λ e. absurd (false≢true e));
      bits_ended = rw (p, q) (λ e. refl);
      whole_ended = rw (p, q) (λ e. refl);
    }

-- the characters 0 and 1 by their numbers
pub digit_range : (c : ℕ) → is_digit c ≡ true → (48 ≤ c) × (c < 50)
unfolding is_digit
digit_range c e = go (eqb c 48) (eqb c 49) refl refl e
  where
    go : (a b : Bool) → eqb c 48 ≡ a → eqb c 49 ≡ b → (a || (b || false)) ≡ true → (48 ≤ c) × (c < 50)
    go true b p q h = let z = eqb-true c 48 p in (omega arith, omega arith)
    go false true p q h = let z = eqb-true c 49 q in (omega arith, omega arith)
    go false false p q h = absurd (false≢true h)

digit_bit : (c : ℕ) → is_digit c ≡ true → T (is_bit (c - 48))
unfolding is_bit
digit_bit c e = lt→ltb (c - 48) 2 (omega (arith, digit_range c e))

pub of_bits_lem : OfBits
of_bits_lem [] = tt
of_bits_lem (c ∷ text) =
    by_test (is_digit c)
    (λ e. rw e (and_intro (is_bit (c - 48)) (every is_bit (bits_in text)) (digit_bit c e) (of_bits_lem text)))
    (λ e. by_test (is_blank c) (λ q. rw (e, q) (of_bits_lem text)) (λ q. rw (e, q) tt))

pub fits : Fits
fits [] = omega arith
fits (c ∷ text) =
    by_test (is_digit c)
    (λ e. rw e (omega (arith, fits text)))
    (λ e. by_test (is_blank c) (λ q. rw (e, q) (omega (arith, fits text))) (λ q. rw (e, q) (omega arith)))
