-- A group is found by its row. Assumes nothing.
use mathlib.Core.Path.{◌≡◌, refl, sym, ap, ap₂, ◌∙◌, subst}
use mathlib.Core.List.{List, [], ◌∷◌}
use Prim.Native.Nat.{ℕ, zero, suc, ◌+◌, ◌*◌, ◌-◌, ◌/◌, ◌%◌, ◌<◌, ◌≤◌}
use native.Mathlib.Nat.{not-suc-le-zero}
use native.Mathlib.Omega.{arith}
use lib.Dec.{eqb}
use lib.ListN.{length, get_or}
use Rattle.line.specs.Table.{entry, first_row}
use Rattle.line.specs.Mode.{column, by_mode, face, quadrant}
use Rattle.line.proofs.ByMode.{same-column, mode_1, mode_2, mode_3, mode_4, by_all}
use Rattle.line.proofs.TableLaws.{row_below}
use Rattle.coding.specs.Code.{changes4, changes8, changes16, eighths, turn_row, group}
use Rattle.coding.specs.Rule.{row_unit}
use Rattle.coding.specs.Rows.{row_index, row_at, with_row, Rows}
use Rattle.coding.proofs.CodeLaws.{group_1, group_2, group_3, group_4}

row-most : (y z : ℕ) → turn_row y z ≤ 3
unfolding turn_row
row-most y z = row_below (λ g. eqb (entry changes16 (4 * g + y)) z) 0 3

module _ (x s : ℕ) where
  abbrev turn8 : ℕ
  turn8 = (s % 8 + 8 - x % 8) % 8

  abbrev both : ℕ
  both = 4 * (x / 4 % 4) + s / 4 % 4

  row_1 : first_row (λ g. eqb (entry changes4 g) (turn8 % 8 / 2)) 3 ≡ first_row (λ g. eqb (entry changes4 g) (turn8 / 2)) 3
  row_1 = ap (λ (i : ℕ). first_row (λ g. eqb (entry changes4 g) (i / 2)) 3) (let e : turn8 % 8 ≡ turn8 = omega arith in e)

  row_2 : first_row (λ g. eqb (entry changes8 g) (turn8 % 8)) 7 ≡ first_row (λ g. eqb (entry changes8 g) turn8) 7
  row_2 = ap (λ (i : ℕ). first_row (λ g. eqb (entry changes8 g) i) 7) (let e : turn8 % 8 ≡ turn8 = omega arith in e)

  row_3 : turn_row (both / 4 % 4) (both % 4) ≡ turn_row (x / 4 % 4) (s / 4 % 4)
  row_3 = ap₂ turn_row (let e : both / 4 % 4 ≡ x / 4 % 4 = omega arith in e) (let e : both % 4 ≡ s / 4 % 4 = omega arith in e)

  -- by the index, the row and the group that the mode's column gives
  by_parts : (m i r g : ℕ) → i ≡ row_index m x s → r ≡ row_at m i → g ≡ with_row m r s → g ≡ group m (face m x) s
      → with_row m (row_at m (row_index m x s)) s ≡ group m (face m x) s
  by_parts m i r g p q w e =
      ap (λ (j : ℕ). with_row m (row_at m j) s) (sym p) ∙ ap (λ (j : ℕ). with_row m j s) (sym q) ∙ sym w ∙ e

  pub group_by_row : (m : ℕ) → with_row m (row_at m (row_index m x s)) s ≡ group m (face m x) s
  unfolding with_row row_at row_index eighths quadrant
  group_by_row m = go (column m) refl
    where
      low : (k : ℕ) → k ≡ column m → k ≤ 1 → with_row m (row_at m (row_index m x s)) s ≡ group m (face m x) s
      low k e h =
          by_parts m turn8 _ _ (mode_1 _ _ _ _ m k e h) (mode_1 _ _ _ _ m k e h) (mode_1 _ _ _ _ m k e h) (group_1 m k x s e _ h row_1)

      go : (k : ℕ) → k ≡ column m → with_row m (row_at m (row_index m x s)) s ≡ group m (face m x) s
      go zero e = low 0 e (omega arith)
      go (suc zero) e = low 1 e (omega arith)
      go (suc (suc zero)) e =
          by_parts m turn8 _ _ (mode_2 _ _ _ _ m 2 e refl) (mode_2 _ _ _ _ m 2 e refl) (mode_2 _ _ _ _ m 2 e refl) (group_2 m 2 x s e _ refl row_2)
      go (suc (suc (suc zero))) e =
          by_parts m both _ _ (mode_3 _ _ _ _ m 3 e refl) (mode_3 _ _ _ _ m 3 e refl) (mode_3 _ _ _ _ m 3 e refl) (group_3 m 3 x s e _ refl row_3)
      go (suc (suc (suc (suc n)))) e =
          let k : ℕ = suc (suc (suc (suc n))) in
          let h : 1 < k = omega arith in
          let f : k ≡ 2 → ⊥ = λ z. omega arith in
          let g : k ≡ 3 → ⊥ = λ z. omega arith in
          let z : turn_row (both / 4 % 4) (both % 4) ≤ 3 = row-most (both / 4 % 4) (both % 4) in
          by_parts m both _ _ (mode_4 _ _ _ _ m k e h f g) (mode_4 _ _ _ _ m k e h f g) (mode_4 _ _ _ _ m k e h f g)
          ((let q : 4 * turn_row (both / 4 % 4) (both % 4) / 4 % 4 * 4 + s % 4 ≡ 4 * turn_row (both / 4 % 4) (both % 4) + s % 4 = omega arith in q)
          ∙ group_4 m k x s e _ h f g row_3)

-- a column of mode 4 alone; k is the mode's column, as the code found it
module _ {A : Type 0} (a d : A) (m : ℕ) where
  pub below_4 : (k : ℕ) → k ≡ column m → k ≤ 3 → a ≡ by_mode m a a a d
  below_4 zero e h = mode_1 a a a d m 0 e (omega arith)
  below_4 (suc zero) e h = mode_1 a a a d m 1 e (omega arith)
  below_4 (suc (suc zero)) e h = mode_2 a a a d m 2 e refl
  below_4 (suc (suc (suc zero))) e h = mode_3 a a a d m 3 e refl
  below_4 (suc (suc (suc (suc n)))) e h = absurd (omega arith)

  pub from_4 : (k : ℕ) → k ≡ column m → 3 < k → d ≡ by_mode m a a a d
  from_4 k e h = mode_4 a a a d m k e (omega arith) (λ q. omega arith) (λ q. omega arith)

pub row_alone : (m k row s : ℕ) → k ≡ column m → k ≤ 3 → row ≡ with_row m row s
unfolding with_row
row_alone m k row s e h = below_4 row (row / 4 % 4 * 4 + s % 4) m k e h

pub row_and_low : (m k row s : ℕ) → k ≡ column m → 3 < k → row / 4 % 4 * 4 + s % 4 ≡ with_row m row s
unfolding with_row
row_and_low m k row s e h = from_4 row (row / 4 % 4 * 4 + s % 4) m k e h

-- a row in its unit
pub in_unit_most : (m u r : ℕ) → u ≡ row_unit m → r ≤ 3 → u * r ≤ 12
unfolding row_unit
in_unit_most m u r e h =
    subst (λ (v : ℕ). v * r ≤ 12) (sym e) (by_all (λ (v : ℕ). v * r ≤ 12) 1 1 1 4 (omega arith) (omega arith) (omega arith) (omega arith) m)

pub row_in_unit : (m k i u r : ℕ) → k ≡ column m → 1 < k → (k ≡ 2 → ⊥) → u ≡ row_unit m → r ≡ turn_row (i / 4 % 4) (i % 4) → u * r ≡ row_at m i
unfolding row_at row_unit
row_in_unit m zero i u r c h f e q = absurd (omega arith)
row_in_unit m (suc zero) i u r c h f e q = absurd (omega arith)
row_in_unit m (suc (suc zero)) i u r c h f e q = absurd (f refl)
row_in_unit m (suc (suc (suc zero))) i u r c h f e q =
    ap₂ (λ (a b : ℕ). a * b) (e ∙ sym (below_4 1 4 m 3 c (omega arith))) q
    ∙ (let z : 1 * turn_row (i / 4 % 4) (i % 4) ≡ turn_row (i / 4 % 4) (i % 4) = omega arith in z) ∙ mode_3 _ _ _ _ m 3 c refl
row_in_unit m (suc (suc (suc (suc n)))) i u r c h f e q =
    let k : ℕ = suc (suc (suc (suc n))) in
    ap₂ (λ (a b : ℕ). a * b) (e ∙ sym (from_4 1 4 m k c (omega arith))) q ∙ mode_4 _ _ _ _ m k c (omega arith) (λ d. omega arith) (λ d. omega arith)

pub index_small : (m x s : ℕ) → row_index m x s < 16
unfolding row_index eighths quadrant
index_small m x s = by_all (λ (i : ℕ). i < 16) _ _ _ _ (omega arith) (omega arith) (omega arith) (omega arith) m

-- rows given one by one, each by a rule
abbrev pub OneByOne : (ℕ → ℕ) → List ℕ → Type 0
OneByOne rule [] = Unit {0}
OneByOne rule (x ∷ xs) = (x ≡ rule 0) × OneByOne (λ i. rule (suc i)) xs

one_at : (rule : ℕ → ℕ) (xs : List ℕ) → OneByOne rule xs → (i : ℕ) → i < length xs → get_or xs i 0 ≡ rule i
one_at rule [] t i h = absurd (not-suc-le-zero h)
one_at rule (x ∷ xs) t zero h = t.0
one_at rule (x ∷ xs) t (suc i) h = one_at (λ j. rule (suc j)) xs t.1 i (omega arith)

pub rows_one_by_one : (m : ℕ) (rows : List ℕ) → length rows ≡ 16 → OneByOne (row_at m) rows → Rows m rows
rows_one_by_one m rows e t = record { size = e; at = λ i h. one_at (row_at m) rows t i (omega (arith, e)) }

-- the rows by a mode's column are the mode's
module _ (m k : ℕ) (f : k ≡ column m) where
  pub index_column : (x s : ℕ) → row_index k x s ≡ row_index m x s
  unfolding row_index
  index_column x s = same-column _ _ _ _ m k f

  at-column : (i : ℕ) → row_at k i ≡ row_at m i
  unfolding row_at
  at-column i = same-column _ _ _ _ m k f

  pub with_column : (row s : ℕ) → with_row k row s ≡ with_row m row s
  unfolding with_row
  with_column row s = same-column _ _ _ _ m k f

  pub rows_column : (rows : List ℕ) → Rows k rows → Rows m rows
  rows_column rows t = record { size = t.size; at = λ i h. t.at i h ∙ at-column i }

-- the group of a looked_up row
pub looked_up : (m x s : ℕ) (rows : List ℕ) → Rows m rows → with_row m (get_or rows (row_index m x s) 0) s ≡ group m (face m x) s
looked_up m x s rows t = ap (λ (k : ℕ). with_row m k s) (t.at (row_index m x s) (index_small m x s)) ∙ group_by_row x s m
