-- A value by mode, by the tests that the code makes. Assumes nothing.
use Prim.Native.Nat.{ℕ, zero, suc, ◌-◌, ◌<◌, ◌≤◌}
use mathlib.Core.Path.{◌≡◌, refl, sym, ap, ◌∙◌, subst}
use mathlib.Core.Bool.{Bool, true, false, cond}
use mathlib.Core.List.{[], ◌∷◌}
use lib.Dec.{leb}
use native.Mathlib.Nat.{le_refl}
use native.Mathlib.Omega.{arith}
use native.Mathlib.Decide.{dec_le}
use borrow.Author.Tests.{le-leb, lt-leb, le-ltb, ltb-true}
use lib.ListN.{get_or}
use Rattle.line.specs.Mode.{column, by_mode, guarded, width, far_tap, capacity}

-- modes 1 to 4 are their own columns
pub column-low : (m : ℕ) → m ≤ 4 → m ≡ column m
column-low m h = sym (ap (λ (b : Bool). cond b m (cond (leb m 5) 1 2)) (le-leb m 4 h))

pub column-most : (m : ℕ) → column m ≤ 4
column-most m = go (dec_le m 4)
  where
    go : Dec (m ≤ 4) → column m ≤ 4
    go (yes h) = let e = column-low m h in omega arith
    go (no h) = rw (lt-leb m 4 (omega (arith, h))) (two (leb m 5))
      where
        two : (b : Bool) → cond b 1 2 ≤ 4
        two true = omega arith
        two false = omega arith

-- a column reads what its mode reads
pub same-column : {A : Type 0} (a b c d : A) (m k : ℕ) → k ≡ column m → by_mode k a b c d ≡ by_mode m a b c d
same-column a b c d m k e = ap (λ (j : ℕ). get_or (a ∷ b ∷ c ∷ d ∷ []) (j - 1) d) (sym (column-low k (let l = column-most m in omega arith)) ∙ e)

-- the code's value is the definition's; k is the mode's column, as the code found it
module _ {A : Type 0} (a b c d : A) (m k : ℕ) (e : k ≡ column m) where
  cell : (i : ℕ) → k - 1 ≡ i → get_or (a ∷ b ∷ c ∷ d ∷ []) i d ≡ by_mode m a b c d
  cell i f = ap (λ (j : ℕ). get_or (a ∷ b ∷ c ∷ d ∷ []) j d) (sym f) ∙ ap (λ (j : ℕ). get_or (a ∷ b ∷ c ∷ d ∷ []) (j - 1) d) e

  past : (i : ℕ) → d ≡ get_or (a ∷ b ∷ c ∷ d ∷ []) (suc (suc (suc i))) d
  past zero = refl
  past (suc i) = refl

  pub mode_1 : k ≤ 1 → a ≡ by_mode m a b c d
  mode_1 h = cell 0 (omega arith)

  pub mode_2 : k ≡ 2 → b ≡ by_mode m a b c d
  mode_2 h = cell 1 (omega arith)

  pub mode_3 : k ≡ 3 → c ≡ by_mode m a b c d
  mode_3 h = cell 2 (omega arith)

  pub mode_4 : 1 < k → (k ≡ 2 → ⊥) → (k ≡ 3 → ⊥) → d ≡ by_mode m a b c d
  mode_4 h p q = past (k - 4) ∙ cell (suc (suc (suc (k - 4)))) (omega arith)

-- the two families: V.27 ter and V.32
module _ {A : Type 0} (a c : A) (m k : ℕ) (e : k ≡ column m) where
  pub mode_short : k ≤ 2 → a ≡ by_mode m a a c c
  mode_short h = go (dec_le k 1)
    where
      go : Dec (k ≤ 1) → a ≡ by_mode m a a c c
      go (yes l) = mode_1 a a c c m k e l
      go (no l) = mode_2 a a c c m k e (omega (arith, l))

  pub mode_long : 2 < k → c ≡ by_mode m a a c c
  mode_long h = go (dec_le k 3)
    where
      go : Dec (k ≤ 3) → c ≡ by_mode m a a c c
      go (yes l) = mode_3 a a c c m k e (omega arith)
      go (no l) = mode_4 a a c c m k e (omega arith) (λ q. omega arith) (λ q. omega (arith, l))

-- what holds of the four columns holds of a value by mode
pub by_all : {A : Type 0} (P : A → Type 0) (a b c d : A) → P a → P b → P c → P d → (m : ℕ) → P (by_mode m a b c d)
by_all P a b c d pa pb pc pd m = go (column m - 1)
  where
    go : (i : ℕ) → P (get_or (a ∷ b ∷ c ∷ d ∷ []) i d)
    go zero = pa
    go (suc zero) = pb
    go (suc (suc zero)) = pc
    go (suc (suc (suc zero))) = pd
    go (suc (suc (suc (suc n)))) = pd

-- 2 to 4 bits in a point, a scrambler longer than that, and a register that keeps what it xors
pub width_range : (m : ℕ) → (2 ≤ width m) × (width m ≤ 4)
unfolding width
width_range m = by_all (λ (w : ℕ). (2 ≤ w) × (w ≤ 4)) 2 3 2 4 (omega arith) (omega arith) (omega arith) (omega arith) m

pub capacity_range : (m : ℕ) → (7 ≤ capacity m) × (capacity m ≤ 23)
unfolding capacity far_tap
capacity_range m = go (guarded m)
  where
    go : (g : Bool) → (7 ≤ cond g 12 (far_tap m)) × (cond g 12 (far_tap m) ≤ 23)
    go true = (omega arith, omega arith)
    go false = by_all (λ (w : ℕ). (7 ≤ w) × (w ≤ 23)) 7 7 23 23 (omega arith) (omega arith) (omega arith) (omega arith) m

-- the modes with the guard are of V.27 ter
pub guard_column : (m : ℕ) → guarded m ≡ true → column m ≤ 2
unfolding guarded
guard_column m e = rw (lt-leb m 4 (ltb-true 4 m e)) (two (leb m 5))
  where
    two : (b : Bool) → cond b 1 2 ≤ 2
    two true = omega arith
    two false = omega arith

pub guarded-width : (m : ℕ) → guarded m ≡ true → width m ≤ 3
unfolding width
guarded-width m e = go (dec_le (column m) 1)
  where
    go : Dec (column m ≤ 1) → width m ≤ 3
    go (yes h) = subst (λ (w : ℕ). w ≤ 3) (mode_1 2 3 2 4 m (column m) refl h) (omega arith)
    go (no h) = subst (λ (w : ℕ). w ≤ 3) (mode_2 2 3 2 4 m (column m) refl (let k = guard_column m e in omega (arith, h))) (omega arith)

-- and no others have it
pub not-guarded : (m : ℕ) → m ≤ 4 → guarded m ≡ false
unfolding guarded
not-guarded m h = le-ltb 4 m h

-- the line bits that a register keeps: with the guard 12, else R
pub kept_guarded : (m : ℕ) → guarded m ≡ true → 12 ≡ capacity m
unfolding capacity
kept_guarded m e = ap (λ (g : Bool). cond g 12 (far_tap m)) (sym e)

pub kept_plain : (m : ℕ) → guarded m ≡ false → far_tap m ≡ capacity m
unfolding capacity
kept_plain m e = ap (λ (g : Bool). cond g 12 (far_tap m)) (sym e)

pub kept_short : (m k : ℕ) → k ≡ column m → k ≤ 2 → guarded m ≡ false → 7 ≡ capacity m
unfolding far_tap
kept_short m k e h g = mode_short 7 23 m k e h ∙ kept_plain m g

pub kept_long : (m k : ℕ) → k ≡ column m → 2 < k → guarded m ≡ false → 23 ≡ capacity m
unfolding far_tap
kept_long m k e h g = mode_long 7 23 m k e h ∙ kept_plain m g

pub far_kept : (m : ℕ) → far_tap m ≤ capacity m
unfolding capacity far_tap
far_kept m = go (guarded m) refl
  where
    go : (g : Bool) → guarded m ≡ g → far_tap m ≤ cond g 12 (far_tap m)
    go true e = subst (λ (n : ℕ). n ≤ 12) (mode_short 7 23 m (column m) refl (guard_column m e)) (omega arith)
    go false e = le_refl (far_tap m)
