-- Laws of `sets`, a run of stores into a list. Assumes nothing.
use mathlib.Core.Path.{◌≡◌, refl, sym, ap, ◌∙◌}
use mathlib.Core.Logic.{◌⊎◌, inl, inr}
use mathlib.Core.List.{List, [], ◌∷◌, ◌++◌, append-nil}
use Prim.Native.Nat.{ℕ, zero, suc, ◌+◌, ◌-◌, ◌≤◌, ◌<◌}
use native.Mathlib.Nat.{add-suc, suc-add, not-suc-le-zero, le_of_suc-le-suc}
use native.Mathlib.Omega.{arith}
use borrow.Rule.Slice.PartMut.{put_mid, Post-is}
use borrow.Author.Rules.{part_to_end}
use lib.ListN.{length, get_or, set, take, drop, length-set, length-drop}
use lib.Seq.{drop-length, sets, take-set-le, drop-set-lt, take-set-lt, drop-set-add, get_or-set_same, get_or-set_other, set-set, set_comm, set_out}

module _ {A : Type 0} where
  pub take-sets-le : (vs l : List A) (n i : ℕ) → n ≤ i → take n (sets l i vs) ≡ take n l
  take-sets-le [] l n i h = refl
  take-sets-le (v ∷ vs) l n i h = take-sets-le vs (set l i v) n (suc i) (omega arith) ∙ take-set-le n l i v h

  pub drop-sets-le : (vs l : List A) (n i : ℕ) → i + length vs ≤ n → drop n (sets l i vs) ≡ drop n l
  drop-sets-le [] l n i h = refl
  drop-sets-le (v ∷ vs) l n i h = drop-sets-le vs (set l i v) n (suc i) (omega arith) ∙ drop-set-lt n l i v (omega arith)

  pub take_sets_in : (vs l : List A) (n i : ℕ) → i + length vs ≤ n → take n (sets l i vs) ≡ sets (take n l) i vs
  take_sets_in [] l n i h = refl
  take_sets_in (v ∷ vs) l n i h =
      take_sets_in vs (set l i v) n (suc i) (omega arith) ∙ ap (λ (k : List A). sets k (suc i) vs) (take-set-lt n l i v (omega arith))

  pub drop_sets_in : (vs l : List A) (n i : ℕ) → drop n (sets l (n + i) vs) ≡ sets (drop n l) i vs
  drop_sets_in [] l n i = refl
  drop_sets_in (v ∷ vs) l n i =
      ap (λ (k : ℕ). drop n (sets (set l (n + i) v) k vs)) (sym (add-suc n i))
      ∙ drop_sets_in vs (set l (n + i) v) n (suc i)
      ∙ ap (λ (k : List A). sets k (suc i) vs) (drop-set-add n l i v)

  pub get_d_sets_out : (vs l : List A) (i k : ℕ) (d : A) → (k < i) ⊎ (i + length vs ≤ k) → get_or (sets l i vs) k d ≡ get_or l k d
  get_d_sets_out [] l i k d h = refl
  get_d_sets_out (v ∷ vs) l i k d (inl h) =
      get_d_sets_out vs (set l i v) (suc i) k d (inl (omega arith)) ∙ get_or-set_other l i k v d (omega arith)
  get_d_sets_out (v ∷ vs) l i k d (inr h) =
      get_d_sets_out vs (set l i v) (suc i) k d (inr (omega arith)) ∙ get_or-set_other l i k v d (omega arith)

  pub get_d_sets_in : (vs l : List A) (i k : ℕ) (d : A) → k < length vs → i + k < length l → get_or (sets l i vs) (i + k) d ≡ get_or vs k d
  get_d_sets_in [] l i k d h b = absurd (omega arith)
  get_d_sets_in (v ∷ vs) l i zero d h b =
      ap (λ (m : ℕ). get_or (sets (set l i v) (suc i) vs) m d) (omega arith)
      ∙ get_d_sets_out vs (set l i v) (suc i) i d (inl (omega arith)) ∙ get_or-set_same l i v d (omega arith)
  get_d_sets_in (v ∷ vs) l i (suc k) d h b =
      ap (λ (m : ℕ). get_or (sets (set l i v) (suc i) vs) m d) (add-suc i k ∙ sym (suc-add i k))
      ∙ get_d_sets_in vs (set l i v) (suc i) k d (omega arith) (simp length-set (omega arith))

  sets_cons : (x : A) (l : List A) (i : ℕ) (vs : List A) → sets (x ∷ l) (suc i) vs ≡ x ∷ sets l i vs
  sets_cons x l i [] = refl
  sets_cons x l i (v ∷ vs) = sets_cons x (set l i v) (suc i) vs

  -- a whole list written over one as long
  pub sets-whole : (vs l : List A) → length vs ≡ length l → sets l 0 vs ≡ vs
  sets-whole [] [] e = refl
  sets-whole [] (y ∷ ys) e = absurd (omega arith)
  sets-whole (v ∷ vs) [] e = absurd (omega arith)
  sets-whole (v ∷ vs) (y ∷ ys) e = sets_cons v ys 0 vs ∙ ap (λ (r : List A). v ∷ r) (sets-whole vs ys (omega arith))

  -- one run after another
  pub sets_then : (u v l : List A) (i j : ℕ) → i + length u ≡ j → sets (sets l i u) j v ≡ sets l i (u ++ v)
  sets_then [] v l i j e = ap (λ (k : ℕ). sets l k v) (omega arith)
  sets_then (x ∷ u) v l i j e = sets_then u v (set l i x) (suc i) j (omega arith)

  -- runs that do not meet change places; a run written again over one as long
  set-sets : (us l : List A) (i j : ℕ) (a : A) → (i < j) ⊎ (j + length us ≤ i) → set (sets l j us) i a ≡ sets (set l i a) j us
  set-sets [] l i j a h = refl
  set-sets (u ∷ us) l i j a (inl h) =
      set-sets us (set l j u) i (suc j) a (inl (omega arith)) ∙ ap (λ (k : List A). sets k (suc j) us) (set_comm l j i u a (omega arith))
  set-sets (u ∷ us) l i j a (inr h) =
      set-sets us (set l j u) i (suc j) a (inr (omega arith)) ∙ ap (λ (k : List A). sets k (suc j) us) (set_comm l j i u a (omega arith))

  pub sets_swap : (v u l : List A) (i j : ℕ) → (i + length u ≤ j) ⊎ (j + length v ≤ i) → sets (sets l i u) j v ≡ sets (sets l j v) i u
  sets_swap [] u l i j h = refl
  sets_swap (b ∷ v) u l i j (inl h) =
      ap (λ (k : List A). sets k (suc j) v) (set-sets u l j i b (inr h)) ∙ sets_swap v u (set l j b) i (suc j) (inl (omega arith))
  sets_swap (b ∷ v) u l i j (inr h) =
      ap (λ (k : List A). sets k (suc j) v) (set-sets u l j i b (inl (omega arith))) ∙ sets_swap v u (set l j b) i (suc j) (inr (omega arith))

  pub sets_over : (u v l : List A) (i : ℕ) → length u ≡ length v → sets (sets l i u) i v ≡ sets l i v
  sets_over [] [] l i e = refl
  sets_over [] (b ∷ v) l i e = absurd (omega arith)
  sets_over (a ∷ u) [] l i e = absurd (omega arith)
  sets_over (a ∷ u) (b ∷ v) l i e =
      ap (λ (k : List A). sets k (suc i) v) (set-sets u (set l i a) i (suc i) b (inl (omega arith)) ∙ ap (λ (k : List A). sets k (suc i) u) (set-set l i a b))
      ∙ sets_over u v (set l i b) (suc i) (omega arith)

  -- a run past the end is not written
  pub sets_out : (vs l : List A) (i : ℕ) → length l ≤ i → sets l i vs ≡ l
  sets_out [] l i h = refl
  sets_out (v ∷ vs) l i h = ap (λ (k : List A). sets k (suc i) vs) (set_out l i v h) ∙ sets_out vs l (suc i) (omega arith)

  -- A LENT PART, from a place to the end: what is written from its front is written in the whole from there on

  sets-drop : (l : List A) (a : ℕ) (vs : List A) → a ≤ length l → take a l ++ sets (drop a l) 0 vs ≡ sets l a vs
  sets-drop l zero vs h = refl
  sets-drop [] (suc a) vs h = absurd (not-suc-le-zero h)
  sets-drop (x ∷ l) (suc a) vs h = rw (sets-drop l a vs (le_of_suc-le-suc h), sets_cons)

  pub sets_part : (l : List A) (a : ℕ) (vs : List A) → a ≤ length l → put_mid a (length l - a) l (sets (take (length l - a) (drop a l)) 0 vs) ≡ sets l a vs
  sets_part l a vs h = rw (part_to_end l a, Post-is a (length l) l h, drop-length l, append-nil (sets (drop a l) 0 vs)) (sets-drop l a vs h)

  -- what fits from the place on fits into the part
  pub part_room : (l : List A) (a n : ℕ) → a + n ≤ length l → n ≤ length (take (length l - a) (drop a l))
  part_room l a n h = rw (part_to_end l a, length-drop) (omega arith)
