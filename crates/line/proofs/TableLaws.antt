-- A test over a list, computed once, and the law that carries it to each member. Assumes nothing.
use mathlib.Core.Path.{◌≡◌, refl, sym, ap, ap₂, ◌∙◌, subst}
use mathlib.Core.Bool.{Bool, true, false, ◌&&◌, ◌||◌, not, cond, and-true, and_assoc}
use mathlib.Core.List.{List, [], ◌∷◌, ◌++◌, map}
use Prim.Native.Nat.{ℕ, zero, suc, ◌+◌, ◌%◌, ◌<◌, ◌≤◌}
use native.Mathlib.Nat.{not-suc-le-zero, mod-lt}
use native.Mathlib.Omega.{arith}
use borrow.Author.Tests.{eqb-false}
use lib.Dec.{T, eqb, ltb, eqb→eq, ltb→lt}
use lib.ListN.{length, get_or, take, drop, drop_of_length-le}
use lib.Seq.{drop-cons}
use Rattle.line.specs.Table.{entry, row_from, member, below, every}

pub and_left : (a b : Bool) → T (a && b) → T a
and_left true b t = tt
and_left false b t = absurd t

pub and_right : (a b : Bool) → T (a && b) → T b
and_right true b t = t
and_right false b t = absurd t

pub and_intro : (a b : Bool) → T a → T b → T (a && b)
and_intro true b s t = t
and_intro false b s t = absurd s

pub is_true : (b : Bool) → T b → b ≡ true
is_true true t = refl
is_true false t = absurd t

pub no_so : (c : Bool) → (T c → ⊥) → c ≡ false
no_so true f = absurd (f tt)
no_so false f = refl

-- two tests with one outcome
abbrev pub alike : Bool → Bool → Bool
alike true b = b
alike false b = not b

pub alike_eq : (a b : Bool) → T (alike a b) → a ≡ b
alike_eq true true t = refl
alike_eq true false t = absurd t
alike_eq false true t = absurd t
alike_eq false false t = refl

every_or : (f : ℕ → Bool) (x y : ℕ) (t : Bool) (b : Bool) → eqb x y ≡ b → T (f y) → (T t → T (f x)) → T (b || t) → T (f x)
every_or f x y t true e p k u = subst (λ (z : ℕ). T (f z)) (sym (eqb→eq x y (subst T (sym e) tt))) p
every_or f x y t false e p k u = k u

pub every-at : (f : ℕ → Bool) (xs : List ℕ) (x : ℕ) → T (every f xs) → T (member x xs) → T (f x)
every-at f [] x t h = absurd h
every-at f (y ∷ ys) x t h =
    every_or f x y (member x ys) (eqb x y) refl (and_left (f y) (every f ys) t)
    (every-at f ys x (and_right (f y) (every f ys) t)) h

member_or : (x y : ℕ) (t : Bool) (b : Bool) → eqb x y ≡ b → ((x ≡ y → ⊥) → T t) → T (b || t)
member_or x y t true e k = tt
member_or x y t false e k = k (eqb-false x y e)

pub every_append : (f : ℕ → Bool) (xs ys : List ℕ) → T (every f xs) → T (every f ys) → T (every f (xs ++ ys))
every_append f [] ys t u = u
every_append f (x ∷ xs) ys t u =
    and_intro (f x) (every f (xs ++ ys)) (and_left (f x) (every f xs) t) (every_append f xs ys (and_right (f x) (every f xs) t) u)

-- what every member passes, those of a part pass, and each by its place
module _ {A : Type 0} (f : A → Bool) where
  pub every_take : (n : ℕ) (xs : List A) → T (every f xs) → T (every f (take n xs))
  every_take zero xs t = tt
  every_take (suc n) [] t = tt
  every_take (suc n) (x ∷ xs) t = and_intro (f x) (every f (take n xs)) (and_left (f x) (every f xs) t) (every_take n xs (and_right (f x) (every f xs) t))

  pub every_drop : (n : ℕ) (xs : List A) → T (every f xs) → T (every f (drop n xs))
  every_drop zero xs t = t
  every_drop (suc n) [] t = tt
  every_drop (suc n) (x ∷ xs) t = every_drop n xs (and_right (f x) (every f xs) t)

  pub every-placed : (none : A) (k : ℕ) (xs : List A) → k < length xs → T (every f xs) → T (f (get_or xs k none))
  every-placed none k [] h t = absurd (not-suc-le-zero h)
  every-placed none zero (x ∷ xs) h t = and_left (f x) (every f xs) t
  every-placed none (suc k) (x ∷ xs) h t = every-placed none k xs (omega arith) (and_right (f x) (every f xs) t)

-- a loop that looks at one member after the other: those before k were looked at, and `all` says whether each passed
module _ {A : Type 0} (f : A → Bool) (none : A) (xs : List A) (k : ℕ) (all : Bool) (e : every f xs ≡ all && every f (drop k xs)) where
  pub every-step : (b : Bool) → k < length xs → b ≡ f (get_or xs k none) → every f xs ≡ (all && b) && every f (drop (k + 1) xs)
  every-step b h q =
      e ∙ ap (λ (l : List A). all && every f l) (drop-cons xs k none h) ∙ sym (and_assoc all (f (get_or xs k none)) (every f (drop (suc k) xs)))
      ∙ ap₂ (λ (c : Bool) (n : ℕ). (all && c) && every f (drop n xs)) (sym q) (let i : suc k ≡ k + 1 = omega arith in i)

  pub every_end : length xs ≤ k → all ≡ every f xs
  every_end h = sym (e ∙ ap (λ (l : List A). all && every f l) (drop_of_length-le xs h) ∙ and-true all)

-- a part of a list, mapped
pub map-take : {A B : Type 0} (f : A → B) (n : ℕ) (xs : List A) → map f (take n xs) ≡ take n (map f xs)
map-take f zero xs = refl
map-take f (suc n) [] = refl
map-take f (suc n) (x ∷ xs) = ap (λ l. f x ∷ l) (map-take f n xs)

pub map-drop : {A B : Type 0} (f : A → B) (n : ℕ) (xs : List A) → map f (drop n xs) ≡ drop n (map f xs)
map-drop f zero xs = refl
map-drop f (suc n) [] = refl
map-drop f (suc n) (x ∷ xs) = map-drop f n xs

pub member_below : (n x : ℕ) → x < n → T (member x (below n))
member_below zero x h = absurd (not-suc-le-zero h)
member_below (suc n) x h = member_or x n (member x (below n)) (eqb x n) refl (λ ne. member_below n x (omega arith))

-- a test of the numbers below n, at each of them
pub below_at : (f : ℕ → Bool) (n : ℕ) → T (every f (below n)) → (x : ℕ) → x < n → T (f x)
below_at f n t x h = every-at f (below n) x t (member_below n x h)

-- and of pairs
pub pairs_below : (f : ℕ → ℕ → Bool) (n k : ℕ) → T (every (λ x. every (f x) (below k)) (below n)) → (x y : ℕ) → x < n → y < k → T (f x y)
pairs_below f n k t x y h l = below_at (f x) k (below_at (λ i. every (f i) (below k)) n t x h) y l

-- all of some tests, and the test at a place
abbrev pub all : List Bool → Bool
all bs = every (λ (b : Bool). b) bs

pub test_at : (bs : List Bool) (i : ℕ) → T (all bs) → T (get_or bs i true)
test_at [] i t = tt
test_at (b ∷ bs) zero t = and_left b (all bs) t
test_at (b ∷ bs) (suc i) t = test_at bs i (and_right b (all bs) t)

-- each entry of a table passes the test that its rows pass
pub entry_at : (f : ℕ → Bool) (t : List ℕ) → 0 < length t → T (every (λ i. f (get_or t i 0)) (below (length t))) → (i : ℕ) → T (f (entry t i))
unfolding entry
entry_at f t p h i = below_at (λ j. f (get_or t j 0)) (length t) h (i % length t) (mod-lt i p)

pub entry_small : (k : ℕ) (t : List ℕ) → 0 < length t → T (every (λ i. ltb (get_or t i 0) k) (below (length t))) → (i : ℕ) → entry t i < k
entry_small k t p h i = ltb→lt (entry t i) k (entry_at (λ x. ltb x k) t p h i)

-- a row found is one of the rows
row_step : (b : Bool) (k n r : ℕ) → r ≤ suc k + n → cond b k r ≤ k + suc n
row_step true k n r h = omega arith
row_step false k n r h = omega arith

pub row_below : (f : ℕ → Bool) (k n : ℕ) → row_from f k n ≤ k + n
unfolding row_from
row_below f k zero = omega arith
row_below f k (suc n) = row_step (f k) k n (row_from f (suc k) n) (row_below f (suc k) n)
