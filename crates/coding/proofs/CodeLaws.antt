-- What the code computes of the differential code is what the tables say. Assumes nothing.
use mathlib.Core.Path.{◌≡◌, ap, ap₂, ◌∙◌}
use Prim.Native.Nat.{ℕ, ◌+◌, ◌*◌, ◌-◌, ◌/◌, ◌%◌, ◌<◌, ◌≤◌, min}
use native.Mathlib.Omega.{arith}
use mathlib.Core.Bool.{Bool, true, cond}
use mathlib.Core.List.{List, [], ◌∷◌}
use lib.Bits.{bit_xor}
use lib.Dec.{T, eqb, eqb→eq, ltb, ltb→lt}
use lib.ListN.{get_or}
use Rattle.line.specs.Table.{entry, row_from, first_row}
use Rattle.line.specs.Mode.{column, face, quadrant}
use Rattle.coding.specs.Code.{changes4, changes8, changes16, coded, eighths, turn_row, group}
use Rattle.line.proofs.ByMode.{column-low, column-most, same-column, mode_1, mode_2, mode_3, mode_4}
use Rattle.line.proofs.TableLaws.{below_at, row_below, all, test_at}
use Rattle.coding.specs.Rule.{place, turns_for}
use Rattle.coding.proofs.ModeLaws.{by_rule}

-- k is the mode's column, as the code found it
module _ (m k x g : ℕ) (f : k ≡ column m) where
  pub coded_1 : (c : ℕ) → k ≤ 1 → c ≡ entry changes4 g → (x % 8 + 2 * c) % 8 ≡ coded m (face m x) g
  unfolding coded face
  coded_1 c h e =
      (let z : (x % 8 + 2 * c) % 8 ≡ (x + 2 * c) % 8 = omega arith in z)
      ∙ ap₂ (λ (y i : ℕ). (y + 2 * i) % 8) (mode_1 x x x (quadrant x) m k f h) e
      ∙ mode_1 _ _ _ _ m k f h

  pub coded_2 : (c : ℕ) → k ≡ 2 → c ≡ entry changes8 g → (x % 8 + c) % 8 ≡ coded m (face m x) g
  unfolding coded face
  coded_2 c h e =
      (let z : (x % 8 + c) % 8 ≡ (x + c) % 8 = omega arith in z)
      ∙ ap₂ (λ (y i : ℕ). (y + i) % 8) (mode_2 x x x (quadrant x) m k f h) e
      ∙ mode_2 _ _ _ _ m k f h

  pub coded_3 : (c : ℕ) → k ≡ 3 → c ≡ entry changes16 (4 * g + x / 4 % 4) → 4 * c + 1 ≡ coded m (face m x) g
  unfolding coded face quadrant
  coded_3 c h e =
      ap (λ (i : ℕ). 4 * i + 1) e
      ∙ ap (λ (y : ℕ). 4 * entry changes16 (4 * g + y / 4 % 4) + 1) (mode_3 x x x (x / 4 % 4) m k f h)
      ∙ mode_3 _ _ _ _ m k f h

  pub coded_4 : (c : ℕ) → 1 < k → (k ≡ 2 → ⊥) → (k ≡ 3 → ⊥) → c ≡ entry changes16 (4 * (g / 4) + x / 4 % 4) → 4 * c + g % 4 ≡ coded m (face m x) g
  unfolding coded face quadrant
  coded_4 c h p q e =
      let z : x / 4 % 4 ≡ x / 4 % 4 % 4 = omega arith in
      ap (λ (i : ℕ). 4 * i + g % 4) e
      ∙ ap (λ (y : ℕ). 4 * entry changes16 (4 * (g / 4) + y) + g % 4) z
      ∙ ap (λ (y : ℕ). 4 * entry changes16 (4 * (g / 4) + y % 4) + g % 4) (mode_4 x x x (x / 4 % 4) m k f h p q)
      ∙ mode_4 _ _ _ _ m k f h p q

-- just one row of a table holds what is looked for, so that the rows that hold it add up to the first: one computed test for each table
abbrev if_row : ℕ → ℕ → ℕ → ℕ
if_row held x row = cond (eqb held x) row 0

abbrev Found : ℕ → ℕ → (ℕ → Bool) → Type 0
Found r n f = (r ≡ first_row f n) × (r ≤ n)

found : (r n : ℕ) (f : ℕ → Bool) → r ≡ first_row f n → Found r n f
found r n f e = (e, let b : first_row f n ≤ 0 + n = row_below f 0 n in omega arith)

pub row4_law : (x a b c : ℕ) → x < 4 → a ≡ if_row 1 x 1 → b ≡ if_row 3 x 2 → c ≡ if_row 2 x 3 → Found (a + b + c) 3 (λ g. eqb (entry changes4 g) x)
unfolding entry row_from changes4
row4_law x a b c h p q r =
    found _ 3 (λ g. eqb (entry changes4 g) x)
    (ap₂ (λ (i j : ℕ). i + j) (ap₂ (λ (i j : ℕ). i + j) p q) r
    ∙ eqb→eq _ _ (below_at (λ y. eqb (if_row 1 y 1 + if_row 3 y 2 + if_row 2 y 3) (first_row (λ g. eqb (entry changes4 g) y) 3)) 4 tt x h))

pub row8_law : (x a b c d e f g : ℕ) → x < 8 → a ≡ if_row 0 x 1 → b ≡ if_row 2 x 2 → c ≡ if_row 3 x 3 → d ≡ if_row 6 x 4 → e ≡ if_row 7 x 5 → f ≡ if_row 5 x 6
    → g ≡ if_row 4 x 7 → Found (a + b + c + (d + e) + f + g) 7 (λ i. eqb (entry changes8 i) x)
unfolding entry row_from changes8
row8_law x a b c d e f g h pa pb pc pd pe pf pg =
    found _ 7 (λ i. eqb (entry changes8 i) x)
    (ap₂ (λ (i j : ℕ). i + j) (ap₂ (λ (i j : ℕ). i + j) (ap₂ (λ (i j : ℕ). i + j) (ap₂ (λ (i j : ℕ). i + j) (ap₂ (λ (i j : ℕ). i + j) pa pb) pc) (ap₂ (λ (i j : ℕ). i + j) pd pe)) pf) pg
    ∙ eqb→eq _ _ (below_at (λ y. eqb (if_row 0 y 1 + if_row 2 y 2 + if_row 3 y 3 + (if_row 6 y 4 + if_row 7 y 5) + if_row 5 y 6 + if_row 4 y 7)
    (first_row (λ i. eqb (entry changes8 i) y) 7)) 8 tt x h))

-- the rule of 001's table 1, as the code computes it: one computed test for the xors, and `by_rule` for the rows
abbrev Xors : ℕ → Type 0
Xors y = (bit_xor y (y / 2) ≡ place y) × (bit_xor (bit_xor y (y / 2)) 1 ≡ turns_for y) × (place y < 4) × (turns_for y < 4)

pub xors : (y : ℕ) → y < 4 → Xors y
unfolding place turns_for
xors y h =
    let at : (i : ℕ) → T (get_or (tests y) i true) = λ i. test_at (tests y) i (below_at (λ z. all (tests z)) 4 tt y h) in
    (eqb→eq _ _ (at 0), eqb→eq _ _ (at 1), ltb→lt _ _ (at 2), ltb→lt _ _ (at 3))
  where
    tests : ℕ → List Bool
    tests z = eqb (bit_xor z (z / 2)) (place z) ∷ eqb (bit_xor (bit_xor z (z / 2)) 1) (turns_for z) ∷ ltb (place z) 4 ∷ ltb (turns_for z) 4 ∷ []

pub any_row : (q y : ℕ) → entry changes16 (4 * (q % 4) + y) ≡ entry changes16 (4 * q + y)
unfolding entry changes16
any_row q y = ap (λ (i : ℕ). get_or changes16 i 0) (let e : (4 * (q % 4) + y) % 16 ≡ (4 * q + y) % 16 = omega arith in e)

pub change16_law : (q y t p r : ℕ) → y < 4 → t ≡ turns_for (q % 4) → p ≡ place y → r ≡ place ((t + p) % 4) → r ≡ entry changes16 (4 * q + y)
change16_law q y t p r h et ep er =
    er ∙ ap₂ (λ (i j : ℕ). place ((i + j) % 4)) et ep ∙ (by_rule (q % 4) y (omega arith) h).turned ∙ any_row q y

pub row16_law : (y z a b r : ℕ) → y < 4 → z < 4 → b ≡ place z → a ≡ place y → r ≡ turns_for ((b + 4 - a) % 4) → r ≡ turn_row y z
row16_law y z a b r hy hz eb ea er = er ∙ ap₂ (λ (i j : ℕ). turns_for ((i + 4 - j) % 4)) eb ea ∙ (by_rule y z hy hz).found

-- k is the mode's column, as the code found it
module _ (m k x s : ℕ) (f : k ≡ column m) where
  abbrev turn8 : ℕ
  turn8 = (s % 8 + 8 - x % 8) % 8

  pub group_1 : (r : ℕ) → k ≤ 1 → r ≡ first_row (λ g. eqb (entry changes4 g) (turn8 / 2)) 3 → r ≡ group m (face m x) s
  unfolding group face eighths
  group_1 r h e =
      e ∙ ap (λ (q : ℕ). first_row (λ g. eqb (entry changes4 g) ((s % 8 + 8 - q % 8) % 8 / 2)) 3) (mode_1 x x x (quadrant x) m k f h)
      ∙ mode_1 _ _ _ _ m k f h

  pub group_2 : (r : ℕ) → k ≡ 2 → r ≡ first_row (λ g. eqb (entry changes8 g) turn8) 7 → r ≡ group m (face m x) s
  unfolding group face eighths
  group_2 r h e =
      e ∙ ap (λ (q : ℕ). first_row (λ g. eqb (entry changes8 g) ((s % 8 + 8 - q % 8) % 8)) 7) (mode_2 x x x (quadrant x) m k f h)
      ∙ mode_2 _ _ _ _ m k f h

  pub group_3 : (r : ℕ) → k ≡ 3 → r ≡ turn_row (x / 4 % 4) (s / 4 % 4) → r ≡ group m (face m x) s
  unfolding group face quadrant
  group_3 r h e =
      e ∙ ap (λ (q : ℕ). turn_row (q / 4 % 4) (s / 4 % 4)) (mode_3 x x x (x / 4 % 4) m k f h) ∙ mode_3 _ _ _ _ m k f h

  pub group_4 : (r : ℕ) → 1 < k → (k ≡ 2 → ⊥) → (k ≡ 3 → ⊥) → r ≡ turn_row (x / 4 % 4) (s / 4 % 4) → 4 * r + s % 4 ≡ group m (face m x) s
  unfolding group face quadrant
  group_4 r h p q e =
      let z : x / 4 % 4 ≡ x / 4 % 4 % 4 = omega arith in
      ap (λ (i : ℕ). 4 * i + s % 4) (e ∙ ap (λ (y : ℕ). turn_row y (s / 4 % 4)) z)
      ∙ ap (λ (y : ℕ). 4 * turn_row (y % 4) (s / 4 % 4) + s % 4) (mode_4 x x x (x / 4 % 4) m k f h p q)
      ∙ mode_4 _ _ _ _ m k f h p q

-- the column that a number is read as
pub near_column : (c : ℕ) → min c 4 ≡ column (min c 4)
near_column c = column-low (min c 4) (omega arith)

-- the code by a mode's column is the mode's
module _ (m k x g : ℕ) (f : k ≡ column m) where
  pub coded-column : coded (min k 4) (face (min k 4) x) g ≡ coded m (face m x) g
  unfolding coded face
  coded-column =
      let e : min k 4 ≡ column m = (let l = column-most m in let z : min k 4 ≡ k = omega arith in z) ∙ f in
      ap (λ (q : ℕ). coded (min k 4) q g) (same-column x x x (quadrant x) m (min k 4) e) ∙ same-column _ _ _ _ m (min k 4) e

  pub group-column : group k (face k x) g ≡ group m (face m x) g
  unfolding group face
  group-column = ap (λ (q : ℕ). group k q g) (same-column x x x (quadrant x) m k f) ∙ same-column _ _ _ _ m k f
