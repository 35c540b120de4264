-- A number's decimal digits, counted and written from the last one on. Assumes nothing.
use mathlib.Core.Path.{◌≡◌, refl, sym, ap, ◌∙◌}
use mathlib.Core.Bool.{Bool, true}
use mathlib.Core.List.{List, [], ◌∷◌, ◌++◌}
use Prim.Native.Nat.{ℕ, zero, suc, ◌+◌, ◌*◌, ◌-◌, ◌/◌, ◌%◌, ◌^◌, ◌≤◌, ◌<◌, max}
use native.Mathlib.Omega.{arith}
use native.Mathlib.Nat.{pow-suc}
use borrow.Author.Tests.{lt-ltb, le-ltb, ltb-true}
use lib.Dec.{T, ltb, lt→ltb}
use lib.ListN.{length, set, length-append}
use lib.Seq.{sets, set_comm}
use Rattle.line.proofs.TableLaws.{and_intro, every_append}
use Rattle.line.proofs.Tests.{by_test}
use Rattle.line.proofs.Sets.{sets_then}
use Rattle.line.specs.Table.{every}
use Rattle.listing.specs.Text.{digits, decimal}
use Rattle.listing.specs.Agreement.{value}

-- the last j digits of a number
abbrev pub spelt : ℕ → ℕ → List ℕ
spelt zero n = []
spelt (suc j) n = spelt j (n / 10) ++ ((48 + n % 10) ∷ [])

spelt_long : (j n : ℕ) → length (spelt j n) ≡ j
spelt_long zero n = refl
spelt_long (suc j) n = simp length-append (omega (arith, spelt_long j (n / 10)))

digits_few : (k n : ℕ) → n < 10 → digits (suc k) n ≡ (48 + n) ∷ []
digits_few k n h = rw (lt-ltb n 10 h)

digits_more : (k n : ℕ) → 10 ≤ n → digits (suc k) n ≡ digits k (n / 10) ++ ((48 + n % 10) ∷ [])
digits_more k n h = rw (le-ltb n 10 h)

digits_spelt : (k n : ℕ) → digits k n ≡ spelt (length (digits k n)) n
digits_spelt zero n = refl
digits_spelt (suc k) n =
    by_test (ltb n 10)
    (λ e. let h = ltb-true n 10 e in let q : n % 10 ≡ n = omega arith in rw (e, q))
    (λ e.
    let d : List ℕ = digits k (n / 10) in
    let l : length (d ++ ((48 + n % 10) ∷ [])) ≡ suc (length d) = simp length-append (omega arith) in
    rw (e, l) (ap (λ (u : List ℕ). u ++ ((48 + n % 10) ∷ [])) (digits_spelt k (n / 10))))

digits_long : (k n : ℕ) → length (digits k n) ≤ k
digits_long zero n = omega arith
digits_long (suc k) n =
    by_test (ltb n 10)
    (λ e. rw e (omega arith))
    (λ e. rw e (simp length-append (omega (arith, digits_long k (n / 10)))))

pub decimal_long : (n : ℕ) → length (decimal n) ≤ 10
unfolding decimal
decimal_long n = digits_long 10 n

pub decimal_one : (n : ℕ) → n < 10 → length (decimal n) ≡ 1
unfolding decimal
decimal_one n h = ap length (digits_few 9 n h)

-- ---- read
-- every byte is above c
abbrev pub above : ℕ → List ℕ → Bool
above c u = every (ltb c) u

-- a byte from 48 on is above c
pub byte_above : (c n : ℕ) → c < 48 → T (ltb c (48 + n))
byte_above c n h = lt→ltb c (48 + n) (omega arith)

digits_above : (k n c : ℕ) → c < 48 → T (above c (digits k n))
digits_above zero n c h = tt
digits_above (suc k) n c h =
    by_test (ltb n 10)
    (λ e. rw e (and_intro (ltb c (48 + n)) true (byte_above c n h) tt))
    (λ e. rw e (every_append (ltb c) (digits k (n / 10)) _ (digits_above k (n / 10) c h) (and_intro (ltb c (48 + n % 10)) true (byte_above c (n % 10) h) tt)))

pub decimal_above : (n c : ℕ) → c < 48 → T (above c (decimal n))
unfolding decimal
decimal_above n c h = digits_above 10 n c h

pub decimal_some : (n : ℕ) → 1 ≤ length (decimal n)
unfolding decimal
decimal_some n =
    by_test (ltb n 10)
    (λ e. rw e (omega arith))
    (λ e. rw e (simp length-append (omega arith)))

value_last : (n : ℕ) (u : List ℕ) (d : ℕ) → value n (u ++ (d ∷ [])) ≡ 10 * value n u + (d - 48)
value_last n [] d = refl
value_last n (x ∷ u) d = value_last (10 * n + (x - 48)) u d

digits_value : (k n : ℕ) → n < 10 ^ k → value 0 (digits k n) ≡ n
digits_value zero n h = omega (arith, let q : n < 1 = h in q)
digits_value (suc k) n h =
    by_test (ltb n 10)
    (λ e. rw e (omega arith))
    (λ e. rw e (value_last 0 (digits k (n / 10)) (48 + n % 10) ∙ omega (arith, digits_value k (n / 10) (omega (arith, h, pow-suc 10 k)))))

pub decimal-value : (n : ℕ) → n ≤ 4294967295 → value 0 (decimal n) ≡ n
unfolding decimal
decimal-value n h = digits_value 10 n (let q : n < 10000000000 = omega arith in q)

-- ---- counted, by the largest power of ten that is no larger
ten_some : (k : ℕ) → 1 ≤ 10 ^ k
ten_some zero = omega arith
ten_some (suc k) = omega (arith, pow-suc 10 k, ten_some k)

digits_count : (f k n : ℕ) → 10 ^ k ≤ n → n < 10 * 10 ^ k → k < f → length (digits f n) ≡ suc k
digits_count zero k n low high few = absurd (omega arith)
digits_count (suc f) zero n low high few = ap length (digits_few f n (let q : n < 10 = high in q))
digits_count (suc f) (suc k) n low high few =
    let p = pow-suc 10 k in
    let one = ten_some k in
    let t = digits_count f k (n / 10) (omega arith) (omega arith) (omega arith) in
    omega (arith, t, ap length (digits_more f n (omega arith)), length-append (digits f (n / 10)) ((48 + n % 10) ∷ []))

-- zero has one digit, as one has
pub decimal_count : (n k : ℕ) → 10 ^ k ≤ max n 1 → max n 1 < 10 * 10 ^ k → k < 10 → length (decimal n) ≡ k + 1
unfolding decimal
decimal_count zero k low high few =
    let t = digits_count 10 k 1 low high few in
    let one : length (digits 10 1) ≡ 1 = refl in
    omega arith
decimal_count (suc n) k low high few = digits_count 10 k (suc n) (let q : 10 ^ k ≤ suc n = omega arith in q) (omega arith) few ∙ omega arith

-- ---- written, from the last one on
set_first : (u l : List ℕ) (i k d : ℕ) → i + length u ≤ k → set (sets l i u) k d ≡ sets (set l k d) i u
set_first [] l i k d h = refl
set_first (x ∷ u) l i k d h =
    set_first u (set l i x) (suc i) k d (omega arith)
    ∙ ap (λ (m : List ℕ). sets m (suc i) u) (set_comm l i k x d (omega arith))

sets_last : (u l : List ℕ) (i d : ℕ) → sets (set l (i + length u) d) i u ≡ sets l i (u ++ (d ∷ []))
sets_last u l i d = sym (set_first u l i (i + length u) d (omega arith)) ∙ sets_then u (d ∷ []) l i (i + length u) refl

pub spelt_step : (out₀ out vs : List ℕ) (at i i' rest : ℕ) → i' ≡ i - 1 → at < i → sets out at (spelt (i - at) rest) ≡ sets out₀ at vs
    → sets (sets out i' ((48 + rest % 10) ∷ [])) at (spelt (i' - at) (rest / 10)) ≡ sets out₀ at vs
spelt_step out₀ out vs at i i' rest e h g =
    let j : i - at ≡ suc (i' - at) = omega arith in
    let p : i' ≡ at + length (spelt (i' - at) (rest / 10)) = omega (arith, spelt_long (i' - at) (rest / 10)) in
    ap (λ (m : ℕ). sets (set out m (48 + rest % 10)) at (spelt (i' - at) (rest / 10))) p
    ∙ sets_last (spelt (i' - at) (rest / 10)) out at (48 + rest % 10)
    ∙ sym (ap (λ (m : ℕ). sets out at (spelt m rest)) j) ∙ g

pub spelt_start : (out : List ℕ) (at n j i : ℕ) → j ≡ length (decimal n) → i ≡ at + j → sets out at (spelt (i - at) n) ≡ sets out at (decimal n)
unfolding decimal
spelt_start out at n j i e q =
    ap (λ (m : ℕ). sets out at (spelt m n)) (let z : i - at ≡ length (digits 10 n) = omega arith in z) ∙ sym (ap (sets out at) (digits_spelt 10 n))

pub spelt_end : (out₀ out vs : List ℕ) (at i rest : ℕ) → i ≤ at → sets out at (spelt (i - at) rest) ≡ sets out₀ at vs → out ≡ sets out₀ at vs
spelt_end out₀ out vs at i rest h g = sym (ap (λ (m : ℕ). sets out at (spelt m rest)) (let e : i - at ≡ 0 = omega arith in e)) ∙ g
