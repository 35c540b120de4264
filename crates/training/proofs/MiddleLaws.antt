-- The table of middle changes: one test, computed in one pass that carries the register, and the lemma that carries it to each entry.
-- Assumes nothing.
use Prim.Native.Nat.{ℕ, zero, suc, ◌+◌, ◌*◌, ◌^◌, ◌%◌, ◌<◌, ◌≤◌, min}
use mathlib.Core.Path.{◌≡◌, refl, sym, ◌∙◌, ap, ap₂, subst}
use mathlib.Core.Bool.{Bool, true, false, cond}
use mathlib.Core.List.{List, [], ◌∷◌, ◌++◌}
use native.Mathlib.Nat.{not-suc-le-zero, le_of_suc-le-suc, add-zero, zero-add}
use native.Mathlib.Omega.{arith}
use lib.Dec.{T, eqb, eqb→eq}
use lib.ListN.{length, get_or}
use Rattle.line.specs.Mode.{column, far_tap, guarded, capacity}
use Rattle.line.proofs.Tests.{by_test}
use Rattle.line.proofs.ByMode.{capacity_range, kept_guarded, kept_short}
use Rattle.line.proofs.TableLaws.{and_left, and_right}
use Rattle.scrambler.specs.declared.Register.{Register}
use Rattle.scrambler.specs.Register.{register, back, near_tap, counting, inverting, differs, count_after, push, pushes}
use Rattle.scrambler.specs.Scramble.{mix}
use Rattle.scrambler.proofs.RegisterLaws.{same-register, same_bits, pushes_append}
use Rattle.training.specs.Training.{changes, uncounted}
use Rattle.training.specs.Middle.{three, threes, change, walk, TableRule}
use Rattle.training.proofs.CoderLaws.{pushes-low}

from : (xs : List ℕ) (n : ℕ) → T (walk (threes n) xs) → (k : ℕ) → k < length xs → get_or xs k 0 ≡ change (n + k)
unfolding change
from [] n t k h = absurd (not-suc-le-zero h)
from (x ∷ xs) n t zero h =
    eqb→eq x (change n) (and_left (eqb x (change n)) (walk (threes (suc n)) xs) t) ∙ ap change (sym (add-zero n))
from (x ∷ xs) n t (suc k) h =
    from xs (suc n) (and_right (eqb x (change n)) (walk (threes (suc n)) xs) t) k (le_of_suc-le-suc h)
    ∙ ap change (let e : suc n + k ≡ n + suc k = omega arith in e)

pub table_rule : TableRule
table_rule xs e t =
    record { size = sym e; at = λ k h. from xs 0 t k (subst (λ (n : ℕ). k < n) e h) ∙ ap change (zero-add k) }

-- THE REGISTER OF A MODE

-- after k middle intervals, with as many of the line bits as the mode keeps, and the guard's count zero
abbrev pub follow : ℕ → ℕ → Register
follow m zero = register 0b0111100 (capacity m) 0
follow m (suc k) = uncounted (pushes m (follow m k) (three (threes k)))

-- its last seven line bits are those of mode 2
pub follow_low : (m k : ℕ) → (follow m k).bits % 2 ^ 7 ≡ (threes k).bits % 2 ^ 7
follow_low m zero = refl
follow_low m (suc k) =
    pushes-low m 2 (follow m k) (threes k) (three (threes k)) (capacity_range m).0 (capacity_range 2).0 (follow_low m k)

-- the line bits that are kept depend on how many are kept alone
kept_same : (m n : ℕ) (h k : Register) (bs : List ℕ) → capacity m ≡ capacity n → h.bits ≡ k.bits → h.held.0 ≡ k.held.0
    → ((pushes m h bs).bits ≡ (pushes n k bs).bits) × ((pushes m h bs).held.0 ≡ (pushes n k bs).held.0)
kept_same m n h k [] e p q = (p, q)
kept_same m n h k (b ∷ bs) e p q =
    kept_same m n (push m h b) (push n k b) bs e
    (unfold push in (ap₂ (λ (x y : ℕ). (x * 2 + b) % 2 ^ y) p e)) (unfold push in (ap₂ (λ (x y : ℕ). min (x + 1) y) q e))

follow_same : (m n k : ℕ) → capacity m ≡ capacity n → follow m k ≡ follow n k
follow_same m n zero e = ap (λ (x : ℕ). register 0b0111100 x 0) e
follow_same m n (suc k) e =
    let i = follow_same m n k e in
    let z = kept_same m n (follow m k) (follow n k) (three (threes k)) e (ap (λ (h : Register). h.bits) i) (ap (λ (h : Register). h.held.0) i) in
    same-register _ _ z.0 z.1 refl

-- the line bits of four middle intervals after the register h, twelve of them
four_from : Register → List ℕ
four_from h =
    let a : Register = pushes 2 h (three h) in
    let b : Register = pushes 2 a (three a) in
    let c : Register = pushes 2 b (three b) in
    three h ++ (three a ++ (three b ++ three c))

-- they are what is kept after them
follow_last : (m k : ℕ) → ((follow m (suc (suc (suc (suc k))))).bits ≡ (pushes m (follow m k) (four_from (threes k))).bits) × ((follow m (suc (suc (suc (suc k))))).held.0 ≡ (pushes m (follow m k) (four_from (threes k))).held.0)
unfolding four_from
follow_last m k =
    let a : List ℕ = three (threes k) in
    let b : List ℕ = three (threes (suc k)) in
    let c : List ℕ = three (threes (suc (suc k))) in
    let d : List ℕ = three (threes (suc (suc (suc k)))) in
    let h₁ : Register = pushes m (follow m k) a in
    let h₂ : Register = pushes m h₁ b in
    let h₃ : Register = pushes m h₂ c in
    let z₂ = kept_same m m (uncounted h₁) h₁ b refl refl refl in
    let z₃ = kept_same m m (follow m (suc (suc k))) h₂ c refl z₂.0 z₂.1 in
    let z₄ = kept_same m m (follow m (suc (suc (suc k)))) h₃ d refl z₃.0 z₃.1 in
    let e : pushes m h₃ d ≡ pushes m (follow m k) (a ++ (b ++ (c ++ d))) =
    sym (pushes_append m (follow m k) a (b ++ (c ++ d)) ∙ pushes_append m h₁ b (c ++ d) ∙ pushes_append m h₂ c d) in
    (z₄.0 ∙ ap (λ (h : Register). h.bits) e, z₄.1 ∙ ap (λ (h : Register). h.held.0) e)

-- of either length the same register goes before the last four
before_58 : threes 54 ≡ register 0b1110010 7 0
unfolding guarded capacity far_tap back near_tap counting inverting differs count_after push mix
before_58 = refl

before_1074 : threes 1070 ≡ register 0b1110010 7 0
unfolding guarded capacity far_tap back near_tap counting inverting differs count_after push mix
before_1074 = refl

either_length : (m : ℕ) → column m ≤ 2 → follow m 1074 ≡ follow m 58
unfolding four_from
either_length m h =
    let e : four_from (threes 1070) ≡ four_from (threes 54) = ap four_from (before_1074 ∙ sym before_58) in
    let most : capacity m ≤ 12 = by_test (guarded m) (λ g. let z = kept_guarded m g in omega arith) (λ g. let z = kept_short m (column m) refl h g in omega arith) in
    let a = follow_last m 1070 in
    let b = follow_last m 54 in
    let z = same_bits m (follow m 1070) (follow m 54) (four_from (threes 54)) most in
    same-register (follow m 1074) (follow m 58)
    (a.0 ∙ ap (λ (l : List ℕ). (pushes m (follow m 1070) l).bits) e ∙ z.0 ∙ sym b.0)
    (a.1 ∙ ap (λ (l : List ℕ). (pushes m (follow m 1070) l).held.0) e ∙ z.1 ∙ sym b.1) refl

-- what the middle changes leave: the last 12 line bits are 110100010001
end_2 : follow 2 58 ≡ register (0b110100010001 % 2 ^ capacity 2) (capacity 2) 0
unfolding guarded capacity far_tap back near_tap counting inverting differs count_after push mix
end_2 = refl

end_6 : follow 6 58 ≡ register (0b110100010001 % 2 ^ capacity 6) (capacity 6) 0
unfolding guarded capacity far_tap back near_tap counting inverting differs count_after push mix
end_6 = refl

pub middle_end : (m n : ℕ) → column m ≤ 2 → follow m (changes n) ≡ register (0b110100010001 % 2 ^ capacity m) (capacity m) 0
unfolding changes
middle_end m n h =
    either (eqb n 0)
    ∙ by_test (guarded m) (λ g. like 6 end_6 (sym (kept_guarded m g) ∙ kept_guarded 6 (unfold guarded in refl)))
    (λ g. like 2 end_2 (sym (kept_short m (column m) refl h g) ∙ kept_short 2 2 refl (omega arith) (unfold guarded in refl)))
  where
    either : (b : Bool) → follow m (cond b 58 1074) ≡ follow m 58
    either true = refl
    either false = either_length m h

    like : (k : ℕ) → follow k 58 ≡ register (0b110100010001 % 2 ^ capacity k) (capacity k) 0 → capacity m ≡ capacity k
        → follow m 58 ≡ register (0b110100010001 % 2 ^ capacity m) (capacity m) 0
    like k z e = follow_same m k 58 e ∙ z ∙ ap (λ (x : ℕ). register (0b110100010001 % 2 ^ x) x 0) (sym e)
