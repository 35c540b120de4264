-- Sending the bits of a point, and what a coder that can send stays. Assumes nothing.
use Prim.Native.Nat.{ℕ, ◌^◌, ◌/◌, ◌%◌, ◌<◌, ◌≤◌}
use mathlib.Core.Path.{◌≡◌, refl, sym, ◌∙◌, ap, ap₂, subst}
use mathlib.Core.Bool.{false}
use mathlib.Core.List.{List, [], ◌∷◌}
use native.Mathlib.Nat.{le_of_eq, le_antisymm}
use native.Mathlib.Omega.{arith}
use lib.Dec.{T}
use lib.ListN.{length, replicate}
use Rattle.line.specs.Mode.{is_mode, width, far_tap, guarded, capacity, is_state, face}
use Rattle.coding.specs.Code.{coded}
use Rattle.line.proofs.ByMode.{by_all}
use Rattle.coding.specs.Laws.{OfGroup}
use Rattle.coding.proofs.ModeLaws.{of_group}
use Rattle.scrambler.specs.declared.Register.{Register}
use Rattle.scrambler.specs.declared.Scrambled.{Scrambled}
use Rattle.scrambler.specs.Bits.{bits, value}
use Rattle.scrambler.specs.Register.{back, near_tap, counting, inverting, count_after, push, pushes}
use Rattle.scrambler.specs.Scramble.{mix, scramble}
use Rattle.scrambler.specs.Group.{scrambled}
use Rattle.scrambler.proofs.BitLaws.{value_small, bit_mod}
use Rattle.scrambler.proofs.RegisterLaws.{Ok, ok_pushes, full_pushes, low-push}
use Rattle.scrambler.proofs.GroupLaws.{length-scramble, bits-scramble}
use Rattle.training.specs.declared.Coder.{Coder}
use Rattle.training.specs.Coder.{coder, coding}

pub same-coder : {r s : ℕ} {h k : Register} → r ≡ s → h ≡ k → coder r h ≡ coder s k
same-coder p q = λ i. record { reference = p i; line = q i }

-- what the code makes of a group
pub code_law : (m role plain r : ℕ) (c : Coder) (s : Scrambled) → s ≡ scrambled m role c.line plain → r ≡ coded m (face m c.reference) s.line
    → ◌≡◌ {A = Coder} (record { reference = r; line = s.next }) (coding m role c (bits (width m) plain))
unfolding scrambled coding
code_law m role plain r c s e f =
    same-coder (f ∙ ap (λ (x : Scrambled). coded m (face m c.reference) x.line) e) (ap (λ (x : Scrambled). x.next) e)

-- the ones of a point
pub ones_bits : (m : ℕ) → bits (width m) 15 ≡ replicate (width m) 1
unfolding width
ones_bits m = by_all (λ (w : ℕ). bits w 15 ≡ replicate w 1) 2 3 2 4 refl refl refl refl m

-- modes and roles with one scrambler
module _ (m n role r : ℕ) (a : near_tap m role ≡ near_tap n r) (b : far_tap m ≡ far_tap n) (g : guarded m ≡ guarded n) (e : capacity m ≡ capacity n) where
  mix-same : (h : Register) (x : ℕ) → mix m role h x ≡ mix n r h x
  unfolding mix inverting counting
  mix-same h x = rw (a, b, g, e)

  push-same : (h : Register) (b : ℕ) → push m h b ≡ push n h b
  unfolding push count_after counting
  push-same h b = rw (g, e)

  pub scramble-same : (h : Register) (ds : List ℕ) → scramble m role h ds ≡ scramble n r h ds
  scramble-same h [] = refl
  scramble-same h (d ∷ ds) =
      ap₂ ◌∷◌ (mix-same h d)
      (ap (λ (k : Register). scramble m role k ds) (push-same h (mix m role h d) ∙ ap (push n h) (mix-same h d))
      ∙ scramble-same (push n h (mix n r h d)) ds)

  pub pushes_same : (h : Register) (bs : List ℕ) → pushes m h bs ≡ pushes n h bs
  pushes_same h [] = refl
  pushes_same h (b ∷ bs) = ap (λ (k : Register). pushes m k bs) (push-same h b) ∙ pushes_same (push n h b) bs

-- a coder that can send: its reference is a state of the mode, its register is full and has no bits beyond
pub record Ready (m : ℕ) (c : Coder) : Type 0 where
  pub state : T (is_state m c.reference)
  pub full : c.line.held.0 ≡ capacity m
  pub fit : Ok m c.line

-- line bits that were scrambled keep the register so
pub ready_pushes : (m role r : ℕ) (c : Coder) (d : List ℕ) → Ready m c → T (is_state m r) → Ready m (coder r (pushes m c.line (scramble m role c.line d)))
ready_pushes m role r c d k t =
    let l : List ℕ = scramble m role c.line d in
    let fit : Ok m (pushes m c.line l) = ok_pushes m c.line l (bits-scramble m role c.line d) k.fit in
    record { state = t; full = le_antisymm fit.most (full_pushes m c.line l (le_of_eq (sym k.full))); fit = fit }

-- a whole group's line bits are a group
group-fits : (m role : ℕ) (h : Register) (d : List ℕ) → length d ≡ width m → value (scramble m role h d) < 2 ^ width m
group-fits m role h d l =
    subst (λ (n : ℕ). value (scramble m role h d) < 2 ^ n) (length-scramble m role h d ∙ l) (value_small (scramble m role h d) (bits-scramble m role h d))

pub lands : (m role : ℕ) (c : Coder) (d : List ℕ) → T (is_mode m) → Ready m c → length d ≡ width m → OfGroup m c.reference (value (scramble m role c.line d))
lands m role c d hm k l = of_group m c.reference hm k.state _ (group-fits m role c.line d l)

pub ready_coding : (m role : ℕ) (c : Coder) (d : List ℕ) → T (is_mode m) → Ready m c → length d ≡ width m → Ready m (coding m role c d)
unfolding coding
ready_coding m role c d hm k l = ready_pushes m role _ c d k (lands m role c d hm k l).lands

-- V.27 ter without the guard scrambles by the last seven line bits alone
module _ (role : ℕ) where
  mix-low : (m : ℕ) (h k : Register) (x : ℕ) → guarded m ≡ false → near_tap m role ≡ 6 → far_tap m ≡ 7 → h.bits % 2 ^ 7 ≡ k.bits % 2 ^ 7 → mix m role h x ≡ mix m role k x
  unfolding mix inverting counting back
  mix-low m h k x g a b e =
      let bit_at : (i : ℕ) → i < 7 → h.bits / 2 ^ i % 2 ≡ k.bits / 2 ^ i % 2 =
      λ i l. sym (bit_mod i 7 h.bits l) ∙ ap (λ (n : ℕ). n / 2 ^ i % 2) e ∙ bit_mod i 7 k.bits l in
      rw (g, a, b, bit_at 5 (omega arith), bit_at 6 (omega arith))

  pub scramble-low : (m : ℕ) (h k : Register) (ds : List ℕ) → guarded m ≡ false → near_tap m role ≡ 6 → far_tap m ≡ 7 → 7 ≤ capacity m → h.bits % 2 ^ 7 ≡ k.bits % 2 ^ 7
      → scramble m role h ds ≡ scramble m role k ds
  scramble-low m h k [] g a b r e = refl
  scramble-low m h k (d ∷ ds) g a b r e =
      let l : mix m role h d ≡ mix m role k d = mix-low m h k d g a b e in
      ap₂ ◌∷◌ l
      (scramble-low m (push m h (mix m role h d)) (push m k (mix m role h d)) ds g a b r (low-push m m 7 h k (mix m role h d) r r e)
      ∙ ap (λ (x : ℕ). scramble m role (push m k x) ds) l)

-- and the line bits of any mode leave the last seven alike
pub pushes-low : (m n : ℕ) (h k : Register) (bs : List ℕ) → 7 ≤ capacity m → 7 ≤ capacity n → h.bits % 2 ^ 7 ≡ k.bits % 2 ^ 7
    → (pushes m h bs).bits % 2 ^ 7 ≡ (pushes n k bs).bits % 2 ^ 7
pushes-low m n h k [] p q e = e
pushes-low m n h k (b ∷ bs) p q e = pushes-low m n (push m h b) (push n k b) bs p q (low-push m n 7 h k b p q e)
