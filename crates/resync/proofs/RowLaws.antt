-- Groups of one size in a row, and what line bits make of two registers: R of them, with the guard 12 and one that differs. Assumes nothing.
use Prim.Native.Nat.{ℕ, zero, suc, ◌+◌, ◌*◌, ◌≤◌}
use mathlib.Core.Path.{◌≡◌, refl, sym, ◌∙◌, ap, subst}
use mathlib.Core.Bool.{Bool, true, false, ◌&&◌, cond}
use mathlib.Core.List.{List, [], ◌∷◌, ◌++◌}
use native.Mathlib.Omega.{arith}
use native.Mathlib.Decide.{dec_le}
use borrow.Author.Tests.{le-leb}
use lib.Dec.{T, leb, leb→le}
use lib.ListN.{length, take, drop, length-take, take-append-drop, drop_of_length-le}
use lib.Seq.{drop_at, drop-nil, drop-append-add}
use Rattle.line.specs.Mode.{guarded, capacity}
use Rattle.line.proofs.Tests.{and_split}
use Rattle.scrambler.specs.declared.Register.{Register}
use Rattle.scrambler.specs.Register.{fresh, counting, differs, push, pushes}
use Rattle.scrambler.specs.Scramble.{descramble}
use Rattle.scrambler.proofs.GroupLaws.{descramble_append, length-descramble}
use Rattle.scrambler.proofs.RegisterLaws.{same_after, same_after_reset, pushes_append, full_push}
use Rattle.line.specs.Table.{All}
use Rattle.receiver.specs.Calls.{row}
use Rattle.resync.specs.Assured.{until_reset, AllSettled}

-- drop from a row of groups of w
pub drop-row : {A : Type 0} (w n : ℕ) (gs : List (List A)) → All (λ (g : List A). length g ≡ w) gs → drop (n * w) (row gs) ≡ row (drop n gs)
drop-row w zero gs a = ap (λ (k : ℕ). drop k (row gs)) (let e : 0 * w ≡ 0 = omega arith in e)
drop-row w (suc n) [] a = drop-nil (suc n * w)
drop-row w (suc n) (g ∷ gs) a =
    ap (λ (k : ℕ). drop k (g ++ row gs)) (let e : suc n * w ≡ w + n * w = omega arith in e)
    ∙ drop_more w (n * w) g (row gs) a.0 ∙ drop-row w n gs a.1
  where
    drop_more : {A : Type 0} (w k : ℕ) (g r : List A) → length g ≡ w → drop (w + k) (g ++ r) ≡ drop k r
    drop_more w k g r e = ap (λ (i : ℕ). drop (i + k) (g ++ r)) (sym e) ∙ drop-append-add g r k

-- without the guard, past R line bits what a register held before does not count
pub forget : (m role n : ℕ) (h h' : Register) (bs : List ℕ) → guarded m ≡ false → capacity m ≤ n → drop n (descramble m role h bs) ≡ drop n (descramble m role h' bs)
forget m role n h h' bs g r = go (dec_le n (length bs))
  where
    -- the register after the first n line bits is one and the same
    split : (k : Register) → n ≤ length bs → drop n (descramble m role k bs) ≡ descramble m role (pushes m k (take n bs)) (drop n bs)
    split k p =
        let l : length (take n bs) ≡ n = rw length-take (omega arith) in
        ap (λ (cs : List ℕ). drop n (descramble m role k cs)) (sym (take-append-drop n bs))
        ∙ ap (drop n) (descramble_append m role k (take n bs) (drop n bs))
        ∙ drop_at (descramble m role k (take n bs)) (descramble m role (pushes m k (take n bs)) (drop n bs)) n (length-descramble m role k (take n bs) ∙ l)

    none : (k : Register) → length bs ≤ n → drop n (descramble m role k bs) ≡ []
    none k p = drop_of_length-le (descramble m role k bs) {i = n} (let e = length-descramble m role k bs in omega arith)

    go : Dec (n ≤ length bs) → drop n (descramble m role h bs) ≡ drop n (descramble m role h' bs)
    go (yes p) =
        let l : length (take n bs) ≡ n = rw length-take (omega arith) in
        split h p ∙ ap (λ (k : Register). descramble m role k (drop n bs)) (same_after m h h' (take n bs) g (omega arith)) ∙ sym (split h' p)
    go (no p) = none h (omega (arith, p)) ∙ sym (none h' (omega (arith, p)))

-- with the guard, past the first line bit after 12 that differs from all three: what was held and counted before does not count
held-most : (m : ℕ) (h : Register) (bs : List ℕ) → (pushes m h bs).held.0 ≤ h.held.0 + length bs
held-most m h [] = omega arith
held-most m h (b ∷ bs) = let i = held-most m (push m h b) bs in let s : (push m h b).held.0 ≤ h.held.0 + 1 = unfold push in (omega arith) in omega arith

full_held : (m : ℕ) (h : Register) → counting m h ≡ true → capacity m ≤ h.held.0
unfolding counting
full_held m h e = leb→le (capacity m) h.held.0 (subst T (sym (and_split (guarded m) (leb (capacity m) h.held.0) e).1) tt)

module _ (m role : ℕ) (g : guarded m ≡ true) (h h' : Register) where
  one_more : (cs : List ℕ) (b : ℕ) (k : Register) → pushes m k (cs ++ (b ∷ [])) ≡ push m (pushes m k cs) b
  one_more cs b k = pushes_append m k cs (b ∷ [])

  -- one line bit: either it differs from all three, and the registers become one, or the rest says it
  abbrev Same : List ℕ → List ℕ → Type 0
  Same cs bs = drop (until_reset m (pushes m fresh cs) bs) (descramble m role (pushes m h cs) bs) ≡ drop (until_reset m (pushes m fresh cs) bs) (descramble m role (pushes m h' cs) bs)

  same_step : (cs : List ℕ) (b : ℕ) (bs : List ℕ) → Same (cs ++ (b ∷ [])) bs → Same cs (b ∷ bs)
  same_step cs b bs i = go (counting m f) (differs f b) refl refl
    where
      f : Register
      f = pushes m fresh cs

      later : drop (until_reset m (push m f b) bs) (descramble m role (push m (pushes m h cs) b) bs) ≡ drop (until_reset m (push m f b) bs) (descramble m role (push m (pushes m h' cs) b) bs)
      later = rw (← one_more cs b h, ← one_more cs b h', ← one_more cs b fresh) i

      go : (x y : Bool) → counting m f ≡ x → differs f b ≡ y
          → drop (cond (x && y) 1 (suc (until_reset m (push m f b) bs))) (descramble m role (pushes m h cs) (b ∷ bs))
          ≡ drop (cond (x && y) 1 (suc (until_reset m (push m f b) bs))) (descramble m role (pushes m h' cs) (b ∷ bs))
      go true true p q =
          let l : capacity m ≤ length cs = let k = full_held m f p in let z = held-most m fresh cs in omega arith in
          let e : push m (pushes m h cs) b ≡ push m (pushes m h' cs) b = sym (one_more cs b h) ∙ same_after_reset m h h' cs b g l (subst T (sym q) tt) ∙ one_more cs b h' in
          ap (λ (k : Register). descramble m role k bs) e
      go true false p q = later
      go false y p q = later

  until_same : (cs bs : List ℕ) → Same cs bs
  until_same cs [] = refl
  until_same cs (b ∷ bs) = same_step cs b bs (until_same (cs ++ (b ∷ [])) bs)

  pub forget_reset : (bs : List ℕ) → drop (until_reset m fresh bs) (descramble m role h bs) ≡ drop (until_reset m fresh bs) (descramble m role h' bs)
  forget_reset bs = until_same [] bs

-- a full register settles every bit
pub all_settled : (m role : ℕ) (h : Register) (bs : List ℕ) → capacity m ≤ h.held.0 → AllSettled (descramble m role h bs)
all_settled m role h [] p = tt
all_settled m role h (b ∷ bs) p =
    (rw (le-leb (capacity m) h.held.0 p) tt, all_settled m role (push m h b) bs (full_push m h b p))

pub all_drop : {A : Type 0} (P : A → Type 0) (n : ℕ) (xs : List A) → All P xs → All P (drop n xs)
all_drop P zero xs a = a
all_drop P (suc n) [] a = tt
all_drop P (suc n) (x ∷ xs) a = all_drop P n xs a.1
