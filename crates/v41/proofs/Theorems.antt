-- The theorems of specs/Laws. Assumes nothing.
use Prim.Native.Nat.{ℕ, zero, suc, ◌+◌, ◌-◌, ◌%◌, ◌≤◌, ◌<◌}
use mathlib.Core.Path.{◌≡◌, refl, sym, ap, ◌∙◌, subst}
use mathlib.Core.Logic.{◌⊎◌, inl, inr, ⊎_elim}
use mathlib.Core.Bool.{Bool, true, false}
use mathlib.Core.List.{List, [], ◌∷◌, ◌++◌}
use native.Mathlib.Omega.{arith}
use native.Mathlib.Decide.{dec_le}
use borrow.Author.Tests.{eq-eqb, eqb-true, leb-true}
use lib.Dec.{T, eqb, leb, ltb, ltb→lt, lt→ltb, leb→le}
use lib.ListN.{length, get_or, take, drop, replicate, length-append, get_or-eq_default, get_or-append}
use lib.Seq.{sets, sets-eq, length-sets, take_at, drop_at, take-append-le, take-append_seam, drop-append_seam}
use Rattle.std.specs.Prelude.{Ok, Err}
use Rattle.line.specs.Table.{every}
use Rattle.line.specs.Refusal.{answered, accepted}
use Rattle.line.proofs.RefusalLaws.{need-zero, or_zero}
use Rattle.line.proofs.Tests.{and_split, and_join}
use Rattle.line.proofs.TableLaws.{and_left, and_right, and_intro, is_true, every-at, every_take, every_drop}
use Rattle.scrambler.specs.Bits.{is_bit}
use Rattle.octets.specs.Number.{zeros}
use Rattle.v41.specs.Polynomial.{plus, divided, remainder, product}
use Rattle.v41.specs.Block.{sizes, is_size, generator, leaves_nothing, check_bits, block, bits_refusal, check_refusal, check_answer, make_refusal, make_answer, make_bytes}
use Rattle.v41.specs.Laws.{Making, Refusing, Detecting, Dividing, Determining, DeterminingAny}
use Rattle.v41.proofs.PolynomialLaws.{Bits, Zeros, bits_append, bits-zeros, bits-plus, length-plus, plus-apart, divided_linear, divided-length, divided-bits}
use Rattle.v41.proofs.RunLaws.{lower_bits, plus-at, run_nothing, behind_nothing}
use Rattle.v41.proofs.ProductLaws.{product-length, product_nothing, quotient, quotient_bits, quotient_is}

-- ---- tests
pub are_bits : (l : List ℕ) → T (every is_bit l) → Bits l
unfolding is_bit
are_bits [] e = tt
are_bits (b ∷ bs) e = (ltb→lt b 2 (and_left (ltb b 2) (every is_bit bs) e), are_bits bs (and_right (ltb b 2) (every is_bit bs) e))

pub bits_are : (l : List ℕ) → Bits l → T (every is_bit l)
unfolding is_bit
bits_are [] p = tt
bits_are (b ∷ bs) p = and_intro (ltb b 2) (every is_bit bs) (lt→ltb b 2 p.0) (bits_are bs p.1)

pub is_nothing : (l : List ℕ) → zeros l ≡ true → Zeros l
is_nothing [] e = tt
is_nothing (b ∷ bs) e = let s = and_split (eqb b 0) (zeros bs) e in (eqb-true b 0 s.0, is_nothing bs s.1)

pub nothing_is : (l : List ℕ) → Zeros l → zeros l ≡ true
nothing_is [] z = refl
nothing_is (b ∷ bs) z = and_join (eqb b 0) (zeros bs) (eq-eqb b 0 z.0) (nothing_is bs z.1)

-- ---- the generator
abbrev pub middle : List ℕ
middle = 0 ∷ 0 ∷ 0 ∷ 1 ∷ 0 ∷ 0 ∷ 0 ∷ 0 ∷ 0 ∷ 0 ∷ 1 ∷ 0 ∷ 0 ∷ 0 ∷ 0 ∷ []

abbrev pub low : List ℕ
low = middle ++ 1 ∷ []

pub generator_is : generator ≡ 1 ∷ low
unfolding generator
generator_is = refl

pub middle-bits : Bits middle
unfolding is_bit
middle-bits = are_bits middle tt

pub low_bits : Bits low
low_bits = lower_bits middle middle-bits

-- the remainder of n + 16 bits takes n steps
pub remainder_is : (n : ℕ) (l : List ℕ) → length l ≡ n + 16 → remainder generator l ≡ divided (1 ∷ low) n l
unfolding remainder
remainder_is n l e =
    ap (λ (g : List ℕ). divided g (suc (length l) - length g) l) generator_is
    ∙ ap (λ (k : ℕ). divided (1 ∷ low) k l) (let q : suc (length l) - 17 ≡ n = omega arith in q)

pub leaves-zeros : (n : ℕ) (l : List ℕ) → length l ≡ n + 16 → leaves_nothing l ≡ true → Zeros (divided (1 ∷ low) n l)
unfolding leaves_nothing
leaves-zeros n l e h = subst Zeros (remainder_is n l e) (is_nothing (remainder generator l) h)

pub zeros_leave : (n : ℕ) (l : List ℕ) → length l ≡ n + 16 → Zeros (divided (1 ∷ low) n l) → leaves_nothing l ≡ true
unfolding leaves_nothing
zeros_leave n l e z = nothing_is (remainder generator l) (subst Zeros (sym (remainder_is n l e)) z)

-- ---- divisibility
pub dividing : Dividing
dividing l b h = (
  (λ e. record {
    quotient = quotient low low_bits n l;
    of_bits_lem = bits_are (quotient low low_bits n l) (quotient_bits low low_bits n l p);
    is = quotient_is low low_bits n l p len (leaves-zeros n l len e) ∙ ap (product (quotient low low_bits n l)) (sym generator_is);
  }),
  (λ m. of m.quotient (are_bits m.quotient m.of_bits_lem) (m.is ∙ ap (product m.quotient) generator_is)),
)
  where
    n : ℕ
    n = length l - 16

    len : length l ≡ n + 16
    len = omega arith

    p : Bits l
    p = are_bits l b

    of : (q : List ℕ) → Bits q → l ≡ product q (1 ∷ low) → leaves_nothing l ≡ true
    of q pq e =
        zeros_leave (length q) l (ap length e ∙ product-length low low_bits q)
        (subst (λ (k : List ℕ). Zeros (divided (1 ∷ low) (length q) k)) (sym e) (product_nothing low low_bits q pq))

-- ---- answers
pub size_least : (n : ℕ) → is_size n ≡ true → 260 ≤ n
unfolding is_size sizes
size_least n e = leb→le 260 n (every-at (leb 260) sizes n tt (subst T (sym e) tt))

pub record Whole (b : List ℕ) : Type 0 where
  pub size : is_size (length b) ≡ true
  pub bits : every is_bit b ≡ true
  pub nothing_left : leaves_nothing b ≡ true

-- where nothing refuses bits
pub bits_met : (size : ℕ) (b : List ℕ) → bits_refusal size b ≡ 0 → (is_size size ≡ true) × (every is_bit b ≡ true)
unfolding bits_refusal
bits_met size b z =
    let s = need-zero (is_size size) 19 _ (omega arith) z in
    (s.0, (need-zero (every is_bit b) 5 0 (omega arith) s.1).0)

bits_free : (size : ℕ) (b : List ℕ) → is_size size ≡ true → every is_bit b ≡ true → bits_refusal size b ≡ 0
unfolding bits_refusal
bits_free size b s a = rw (s, a) refl

-- the block is accepted exactly where nothing refuses it and it leaves nothing
pub whole_means : (b : List ℕ) → check_answer b ≡ Ok true → Whole b
unfolding check_answer check_refusal
whole_means b e = go (bits_refusal (length b) b) (leaves_nothing b) refl refl e
  where
    go : (n : ℕ) (l : Bool) → bits_refusal (length b) b ≡ n → leaves_nothing b ≡ l → answered n l ≡ Ok true → Whole b
    go zero true p r e = let m = bits_met (length b) b p in record { size = m.0; bits = m.1; nothing_left = r }
    go zero false p r e = let z : ◌≡◌ {A = ℕ} 0 1 = cc in absurd (omega arith)
    go (suc n) l p r e = let z : ◌≡◌ {A = ℕ} 0 1 = cc in absurd (omega arith)

pub means_whole : (b : List ℕ) → Whole b → check_answer b ≡ Ok true
unfolding check_answer check_refusal
means_whole b w = rw (bits_free (length b) b w.size w.bits, w.nothing_left) refl

pub means_broken : (b : List ℕ) → is_size (length b) ≡ true → every is_bit b ≡ true → (leaves_nothing b ≡ true → ⊥) → check_answer b ≡ Ok false
unfolding check_answer check_refusal
means_broken b s a l = rw (bits_free (length b) b s a) (ap Ok (go (leaves_nothing b) l))
  where
    go : (t : Bool) → (t ≡ true → ⊥) → t ≡ false
    go true f = absurd (f refl)
    go false f = refl

-- ---- altered blocks
-- two polynomials of bits that leave nothing and differ only within a run of 16 are one
same_within : (n k : ℕ) (b b' : List ℕ) → Bits b → Bits b' → length b ≡ n + 16 → length b ≡ length b' → k ≤ n
    → ((i : ℕ) → (i < k) ⊎ (k + 16 ≤ i) → get_or b i 0 ≡ get_or b' i 0)
    → Zeros (divided (1 ∷ low) n b) → Zeros (divided (1 ∷ low) n b') → b ≡ b'
same_within n k b b' p p' e e' h o z z' =
    plus-apart b b' p p' e'
    (run_nothing middle middle-bits k (n - k) d (bits-plus b b' p p') (length-plus b b' (omega arith) ∙ (let q : length b ≡ k + (n - k) + 16 = omega arith in q))
    (λ i w. plus-at b b' i e' ∙ twice (get_or b i 0) (get_or b' i 0) (o i w))
    (subst (λ (m : ℕ). Zeros (divided (1 ∷ low) m d)) (let q : n ≡ k + (n - k) = omega arith in q)
    (subst Zeros (sym (divided_linear low low_bits n b b' e' (omega arith))) (sum_zeros (divided (1 ∷ low) n b) (divided (1 ∷ low) n b') z z'))))
  where
    d : List ℕ
    d = plus b b'

    twice : (x y : ℕ) → x ≡ y → (x + y) % 2 ≡ 0
    twice x y e = omega arith

    sum_zeros : (xs ys : List ℕ) → Zeros xs → Zeros ys → Zeros (plus xs ys)
    sum_zeros [] ys z w = w
    sum_zeros (x ∷ xs) [] z w = z
    sum_zeros (x ∷ xs) (y ∷ ys) z w = (let p = z.0 in let q = w.0 in omega arith, sum_zeros xs ys z.1 w.1)

pub detecting : Detecting
detecting b b' e a = record {
  never = λ e'. no_more (subst T (sym (whole_means b' e').bits) tt) (whole_means b' e').nothing_left;
  broken = λ t. means_broken b' (subst (λ (n : ℕ). is_size n ≡ true) a.length_kept w.size) (is_true _ t) (no_more t);
}
  where
    w : Whole b
    w = whole_means b e

    n : ℕ
    n = length b - 16

    len : length b ≡ n + 16
    len = let q = size_least (length b) w.size in omega arith

    no_more : T (every is_bit b') → leaves_nothing b' ≡ true → ⊥
    no_more t l = a.changed (ap (λ (x : List ℕ). get_or x a.place 0) (go (dec_le a.run n)))
      where
        whole : (k : ℕ) → k ≤ n → ((i : ℕ) → (i < k) ⊎ (k + 16 ≤ i) → get_or b i 0 ≡ get_or b' i 0) → b ≡ b'
        whole k h o =
            same_within n k b b' (are_bits b (subst T (sym w.bits) tt)) (are_bits b' t) len a.length_kept h o
            (leaves-zeros n b len w.nothing_left) (leaves-zeros n b' (sym a.length_kept ∙ len) l)

        go : Dec (a.run ≤ n) → b ≡ b'
        go (yes h) = whole a.run h a.outside
        go (no h) = whole n (omega arith) (λ i q. ⊎_elim (λ r. a.outside i (inl (omega (arith, h)))) (past i) q)
          where
            past : (i : ℕ) → n + 16 ≤ i → get_or b i 0 ≡ get_or b' i 0
            past i r = get_or-eq_default b 0 {n = i} (omega (arith, len)) ∙ sym (get_or-eq_default b' 0 {n = i} (omega (arith, len, a.length_kept)))

-- ---- made blocks
pub check_length : (given : List ℕ) → length (check_bits given) ≡ 16
unfolding check_bits
check_length given =
    let e = padded given in
    ap length (remainder_is (length given) (given ++ replicate 16 0) e)
    ∙ (let q = divided-length low low_bits (length given) (given ++ replicate 16 0) (omega arith) in let z : length (divided (1 ∷ low) (length given) (given ++ replicate 16 0)) ≡ 16 = omega arith in z)
  where
    padded : (l : List ℕ) → length (l ++ replicate 16 0) ≡ length l + 16
    padded l = length-append l (replicate 16 0)

pub block-length : (given : List ℕ) → length (block given) ≡ length given + 16
unfolding block
block-length given = length-append given (check_bits given) ∙ ap (λ (k : ℕ). length given + k) (check_length given)

pub check_bits_lem : (given : List ℕ) → Bits given → Bits (check_bits given)
unfolding check_bits
check_bits_lem given p =
    subst Bits (sym (remainder_is (length given) (given ++ replicate 16 0) (length-append given (replicate 16 0))))
    (divided-bits low low_bits (length given) (given ++ replicate 16 0) (bits_append given (replicate 16 0) p (bits-zeros 16)))

block-leaves : (given : List ℕ) → Bits given → leaves_nothing (block given) ≡ true
unfolding block check_bits
block-leaves given p =
    zeros_leave (length given) (block given) (block-length given)
    (subst (λ (c : List ℕ). Zeros (divided (1 ∷ low) (length given) (given ++ c)))
    (sym (remainder_is (length given) (given ++ replicate 16 0) (length-append given (replicate 16 0)))) (behind_nothing middle middle-bits given p))

pub block-whole : (given : List ℕ) → is_size (length given + 16) ≡ true → T (every is_bit given) → check_answer (block given) ≡ Ok true
unfolding block
block-whole given s a =
    means_whole (block given)
    (record {
      size = ap is_size (block-length given) ∙ s;
      bits = is_true _ (bits_are (block given) (bits_append given (check_bits given) p (check_bits_lem given p)));
      nothing_left = block-leaves given p;
    })
  where
    p : Bits given
    p = are_bits given a

pub record Room (given out : List ℕ) : Type 0 where
  pub size : is_size (length given + 16) ≡ true
  pub bits : every is_bit given ≡ true
  pub room : length given + 16 ≤ length out

-- where nothing refuses making
pub make_met : (given out : List ℕ) → make_refusal given (length out) ≡ 0 → Room given out
unfolding make_refusal
make_met given out z =
    let p = or_zero (bits_refusal (length given + 16) given) _ z in
    let m = bits_met (length given + 16) given p.0 in
    record { size = m.0; bits = m.1; room = leb-true (length given + 16) (length out) (need-zero (leb (length given + 16) (length out)) 7 0 (omega arith) p.1).0 }

record Written (given out : List ℕ) (n : ℕ) : Type 0 where
  free : Room given out
  written : n ≡ length given + 16
  bytes : make_bytes given out ≡ sets out 0 (block given)

written_means : (given out : List ℕ) (n : ℕ) → make_answer given (length out) ≡ Ok n → Written given out n
unfolding make_answer make_bytes
written_means given out n e = go (make_refusal given (length out)) refl e
  where
    go : (k : ℕ) → make_refusal given (length out) ≡ k → answered k (length given + 16) ≡ Ok n → Written given out n
    go zero p e = record { free = make_met given out p; written = cc; bytes = rw p refl }
    go (suc k) p e = let z : ◌≡◌ {A = ℕ} 0 1 = cc in absurd (omega arith)

pub making : Making
unfolding block
making given out n e =
    record {
      size = w.written;
      begins = ap (take (length given)) bytes ∙ take-append-le (length given) (block given) rest (omega (arith, len)) ∙ take-append_seam given (check_bits given);
      whole = ap check_answer (ap (take n) bytes ∙ take_at (block given) rest n (len ∙ sym w.written)) ∙ block-whole given w.free.size (subst T (sym w.free.bits) tt);
      beyond = ap (drop n) bytes ∙ drop_at (block given) rest n (len ∙ sym w.written) ∙ ap (λ (k : ℕ). drop k out) (let q : 0 + length (block given) ≡ n = omega (arith, len, w.written) in q);
      lent = ap length w.bytes ∙ length-sets out 0 (block given);
    }
  where
    w : Written given out n
    w = written_means given out n e

    len : length (block given) ≡ length given + 16
    len = block-length given

    rest : List ℕ
    rest = drop (0 + length (block given)) out

    bytes : make_bytes given out ≡ block given ++ rest
    bytes = w.bytes ∙ sets-eq (block given) out 0 (omega (arith, len, w.free.room))

pub refusing : Refusing
unfolding make_answer make_bytes
refusing given out n e = go (make_refusal given (length out)) e
  where
    go : (m : ℕ) → answered m (length given + 16) ≡ Err n → accepted m (sets out 0 (block given)) out ≡ out
    go zero e = let z : ◌≡◌ {A = ℕ} 0 1 = cc in absurd (omega arith)
    go (suc m) e = refl

-- no other 16 bits behind the given bits leave nothing
pub determining_any : DeterminingAny
unfolding block check_bits
determining_any given c a b l e =
    take_tail given c (check_bits given)
    (same_within (length given) (length given) (given ++ c) (block given) (bits_append given c p (are_bits c b)) (bits_append given (check_bits given) p (check_bits_lem given p))
    len (len ∙ sym (block-length given)) (omega arith) outside
    (leaves-zeros (length given) (given ++ c) len e) (leaves-zeros (length given) (block given) (block-length given) (block-leaves given p)))
  where
    p : Bits given
    p = are_bits given a

    len : length (given ++ c) ≡ length given + 16
    len = length-append given c ∙ ap (λ (k : ℕ). length given + k) l

    take_tail : (g x y : List ℕ) → g ++ x ≡ g ++ y → x ≡ y
    take_tail g x y q = sym (drop-append_seam g x) ∙ ap (drop (length g)) q ∙ drop-append_seam g y

    outside : (i : ℕ) → (i < length given) ⊎ (length given + 16 ≤ i) → get_or (given ++ c) i 0 ≡ get_or (block given) i 0
    outside i (inl h) = get_or-append given c 0 i h ∙ sym (get_or-append given (check_bits given) 0 i h)
    outside i (inr h) =
        get_or-eq_default (given ++ c) 0 {n = i} (omega (arith, len)) ∙ sym (get_or-eq_default (block given) 0 {n = i} (omega (arith, block-length given)))

pub determining : Determining
determining given c l e =
    let w = whole_means (given ++ c) e in
    let p : T (every is_bit (given ++ c)) = subst T (sym w.bits) tt in
    determining_any given c (subst (λ (k : List ℕ). T (every is_bit k)) (take-append_seam given c) (every_take is_bit (length given) (given ++ c) p))
    (subst (λ (k : List ℕ). T (every is_bit k)) (drop-append_seam given c) (every_drop is_bit (length given) (given ++ c) p)) l w.nothing_left
