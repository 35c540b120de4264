-- What `check` and `make` answer, by the tests that they make. Assumes nothing.
use Prim.Native.Nat.{ℕ, zero, suc, ◌+◌, ◌-◌, ◌≤◌}
use mathlib.Core.Path.{◌≡◌, refl, sym, ap, ap₂, ◌∙◌, subst}
use mathlib.Core.Bool.{Bool, true, false, ◌||◌}
use mathlib.Core.List.{List}
use native.Mathlib.Omega.{arith}
use borrow.Rule.Slice.PartMut.{put_mid}
use lib.Dec.{T, eqb, leb}
use lib.ListN.{length, take, drop, replicate, length-drop}
use lib.Seq.{sets, length-sets, length-take-le}
use Rattle.line.specs.Table.{every}
use Rattle.std.specs.Prelude.{Result, Ok, Err}
use Rattle.line.specs.declared.refusal.Refusal.{Refusal}
use Rattle.line.specs.Refusal.{number, named, answered, need, or_next}
use Rattle.line.proofs.RefusalLaws.{some_number, answer_given, answer_refused, Listed, listed_need, listed_next, or_some, left_done, left_kept}
use Rattle.line.proofs.Sets.{sets_then}
use Rattle.bits.proofs.Parts.{part_written}
use Rattle.scrambler.specs.Bits.{is_bit, bits}
use Rattle.v41.specs.Block.{sizes, is_size, leaves_nothing, check_bits, block, bits_refusal, check_refusal, check_answer, CheckTold, make_refusal, make_answer, make_bytes, MakeTold}
use Rattle.v41.specs.Register.{register}
use Rattle.v41.proofs.Theorems.{are_bits, size_least, bits_met, check_length, Room, make_met}
use Rattle.v41.proofs.RegisterLaws.{check_register, register_append, register-bits}

-- `size_ok`
pub size_law : (n : ℕ) → (eqb n 260 || (eqb n 500 || (eqb n 980 || eqb n 3860))) ≡ is_size n
unfolding is_size sizes
size_law n = ap (λ (b : Bool). eqb n 260 || (eqb n 500 || (eqb n 980 || b))) (none (eqb n 3860))
  where
    none : (b : Bool) → b ≡ (b || false)
    none true = refl
    none false = refl

-- THE NUMBERS ARE OF THE LIST

none_listed : Listed 0
none_listed h = absurd (h refl)

pub listed_bits : (size : ℕ) (b : List ℕ) → Listed (bits_refusal size b)
unfolding bits_refusal named
listed_bits size b = listed_need (is_size size) 19 _ (λ h. refl) (listed_need (every is_bit b) 5 0 (λ h. refl) none_listed)

listed_make : (g : List ℕ) (lent : ℕ) → Listed (make_refusal g lent)
unfolding make_refusal named
listed_make g lent = listed_next _ _ (listed_bits (length g + 16) g) (listed_need (leb (length g + 16) lent) 7 0 (λ h. refl) none_listed)

-- WHAT THE CASES SAY

pub check_told : (b : List ℕ) (r : Result Bool Refusal) → r ≡ check_answer b → CheckTold b r
unfolding check_answer check_refusal
check_told b r e = subst (CheckTold b) (sym e) (go (check_refusal b) (listed_bits (length b) b) refl)
  where
    go : (n : ℕ) → Listed n → check_refusal b ≡ n → CheckTold b (answered n (leaves_nothing b))
    go zero h p = record { number_is = sym p; accepted_is = rw p refl }
    go (suc n) h p = record { number_is = h (λ (z : suc n ≡ 0). omega arith) ∙ sym p; accepted_is = rw p refl }

pub make_told : (g : List ℕ) (lent : ℕ) (r : Result ℕ Refusal) → r ≡ make_answer g lent → MakeTold g lent r
unfolding make_answer
make_told g lent r e = subst (MakeTold g lent) (sym e) (go (make_refusal g lent) (listed_make g lent) refl)
  where
    go : (n : ℕ) → Listed n → make_refusal g lent ≡ n → MakeTold g lent (answered n (length g + 16))
    go zero h p = record { number_is = sym p; count_is = rw p refl }
    go (suc n) h p = record { number_is = h (λ (z : suc n ≡ 0). omega arith) ∙ sym p; count_is = rw p refl }

-- CHECKING

abbrev CheckEnds : List ℕ → Result Bool Refusal → Type 0
CheckEnds b r = (r ≡ check_answer b) × CheckTold b r

told_too : (b : List ℕ) (r : Result Bool Refusal) → r ≡ check_answer b → CheckEnds b r
told_too b r e = (e, check_told b r e)

module _ (b : List ℕ) where
  pub check_refused : (f : Refusal) → number f ≡ bits_refusal (length b) b → CheckEnds b (Err f)
  unfolding check_answer check_refusal
  check_refused f e = told_too b (Err f) (answer_refused f _ (leaves_nothing b) e)

  module _ (z : 0 ≡ bits_refusal (length b) b) where
    free : (is_size (length b) ≡ true) × (every is_bit b ≡ true)
    free = bits_met (length b) b (sym z)

    pub of_bits_lem : T (every is_bit b)
    of_bits_lem = subst T (sym free.1) tt

    pub check_done : (r : ℕ) → r ≡ register 0 b → CheckEnds b (Ok (eqb r 0))
    unfolding check_answer check_refusal
    check_done r er = told_too b (Ok (eqb r 0)) (ap Ok tested ∙ answer_given _ (leaves_nothing b) (sym z))
      where
        tested : eqb r 0 ≡ leaves_nothing b
        tested = ap (λ (k : ℕ). eqb k 0) er ∙ check_register b (are_bits b of_bits_lem) (let q = size_least (length b) free.0 in omega arith)

-- MAKING

abbrev MakeEnds : List ℕ → List ℕ → Result ℕ Refusal → List ℕ → Type 0
MakeEnds g o r w = (r ≡ make_answer g (length o)) × ((w ≡ make_bytes g o) × MakeTold g (length o) r)

module _ (g o : List ℕ) where
  make_refused : (f : Refusal) → number f ≡ make_refusal g (length o) → MakeEnds g o (Err f) o
  unfolding make_answer make_bytes
  make_refused f e =
      let answer : Err f ≡ make_answer g (length o) = answer_refused f _ (length g + 16) e in
      (answer, (left_kept _ _ o (λ z. some_number f (e ∙ z)), make_told g (length o) (Err f) answer))

  pub refused_bits : (f : Refusal) → number f ≡ bits_refusal (length g + 16) g → MakeEnds g o (Err f) o
  unfolding make_refusal
  refused_bits f e = make_refused f (e ∙ or_some _ _ (λ z. some_number f (e ∙ z)))

  module _ (zb : 0 ≡ bits_refusal (length g + 16) g) where
    pub refused_room : (f : Refusal) → number f ≡ need (leb (length g + 16) (length o)) 7 0 → MakeEnds g o (Err f) o
    unfolding make_refusal
    refused_room f e = make_refused f (e ∙ ap (λ (k : ℕ). or_next k (need (leb (length g + 16) (length o)) 7 0)) zb)

  module _ (zb : 0 ≡ bits_refusal (length g + 16) g) (zr : 0 ≡ need (leb (length g + 16) (length o)) 7 0) where
    none : make_refusal g (length o) ≡ 0
    unfolding make_refusal
    none = sym (ap₂ or_next zb zr)

    free_to_make : Room g o
    free_to_make = make_met g o none

    pub given_bits : T (every is_bit g)
    given_bits = subst T (sym free_to_make.bits) tt

    pub given_room : length g + 16 ≤ length o
    given_room = free_to_make.room

    ends : (w : List ℕ) → w ≡ sets o 0 (block g) → MakeEnds g o (Ok (length g + 16)) w
    unfolding make_answer make_bytes
    ends w q =
        let answer : Ok (length g + 16) ≡ make_answer g (length o) = answer_given _ (length g + 16) none in
        (answer, (q ∙ left_done _ _ o none, make_told g (length o) _ answer))

    -- the register after the bits and 16 zeros, and its bits behind the given ones
    pub make_done : (r q p : ℕ) → r ≡ register 0 g → q ≡ register r (bits 8 0) → p ≡ register q (bits 8 0)
        → (c v : List ℕ) → c ≡ sets o 0 g → v ≡ bits (length (take (length g + 16 - length g) (drop (length g) c))) p
        → MakeEnds g o (Ok (length g + 16)) (put_mid (length g) (length g + 16 - length g) c v)
    unfolding block
    make_done r q p er eq ep c v ec ev =
        ends _ (written ∙ sets_then g (check_bits g) o 0 (length g) (omega arith))
      where
        sixteen : length g + 16 - length g ≡ 16
        sixteen = omega arith

        long : length (take (length g + 16 - length g) (drop (length g) c)) ≡ 16
        long =
            length-take-le (length g + 16 - length g) (drop (length g) c) (omega (arith, length-drop (length g) c, ap length ec ∙ length-sets o 0 g, given_room))
            ∙ sixteen

        check : v ≡ check_bits g
        check =
            ev ∙ ap (λ (k : ℕ). bits k p) long
            ∙ ap (bits 16) (ep ∙ ap (λ (x : ℕ). register x (bits 8 0)) eq ∙ sym (register_append (bits 8 0) (bits 8 0) r) ∙ ap (λ (x : ℕ). register x (replicate 16 0)) er)
            ∙ register-bits g (are_bits g given_bits)

        written : put_mid (length g) (length g + 16 - length g) c v ≡ sets (sets o 0 g) (length g) (check_bits g)
        written =
            ap₂ (λ (x y : List ℕ). put_mid (length g) (length g + 16 - length g) x y) ec check
            ∙ part_written (length g) (length g + 16) (sets o 0 g) (check_bits g) (omega arith) (omega (arith, length-sets o 0 g, given_room)) (check_length g ∙ sym sixteen)
