-- Chains: the walk of a chain that ends, and what one more record makes of it. Nothing here knows bytes. Assumes nothing.
use mathlib.Core.Path.{◌≡◌, refl, sym, ap, ◌∙◌, subst}
use mathlib.Core.Logic.{◌≢◌, ⊎_elim, ◌⊎◌, inl, inr}
use mathlib.Core.Bool.{Bool, true, false, not, ◌&&◌, cond}
use mathlib.Core.List.{List, [], ◌∷◌, ◌++◌, append_assoc, append-nil}
use Prim.Native.Nat.{ℕ, zero, suc, ◌+◌, ◌≤◌, ◌<◌, max}
use native.Mathlib.Omega.{arith}
use lib.ListN.{length}
use lib.Dec.{eqb, ltb}
use borrow.Author.Tests.{ltb-true, lt-ltb, eqb-true, eqb-false, eq-eqb, ne_eqb, not-true}
use Rattle.line.specs.Table.{every, All}
use Rattle.line.proofs.Tests.{by_test, and_split, and_join}
use Rattle.store.specs.Chain.{walk, last_of, greatest, distinct, ends, sum_over, gather}

-- ---- facts about every element, as types
abbrev pub NoDup : List ℕ → Type 0
NoDup [] = Unit {0}
NoDup (x ∷ xs) = All (λ y. x ≢ y) xs × NoDup xs

-- the chain from i on is xs, and ends
abbrev pub Run : (ℕ → ℕ) → ℕ → List ℕ → Type 0
Run f i [] = i ≡ 0
Run f i (x ∷ xs) = (i ≡ x) × (0 < x) × Run f (f x) xs

pub all_map : {P Q : ℕ → Type 0} (xs : List ℕ) → ((x : ℕ) → P x → Q x) → All P xs → All Q xs
all_map [] g a = tt
all_map (x ∷ xs) g a = (g x a.0, all_map xs g a.1)

pub all_zip : {P Q R : ℕ → Type 0} (xs : List ℕ) → ((x : ℕ) → P x → Q x → R x) → All P xs → All Q xs → All R xs
all_zip [] g a b = tt
all_zip (x ∷ xs) g a b = (g x a.0 b.0, all_zip xs g a.1 b.1)

pub all_true : (p : ℕ → Bool) (xs : List ℕ) → every p xs ≡ true → All (λ x. p x ≡ true) xs
all_true p [] e = tt
all_true p (x ∷ xs) e = let s = and_split (p x) (every p xs) e in (s.0, all_true p xs s.1)

pub true_all : (p : ℕ → Bool) (xs : List ℕ) → All (λ x. p x ≡ true) xs → every p xs ≡ true
true_all p [] a = refl
true_all p (x ∷ xs) a = and_join (p x) (every p xs) a.0 (true_all p xs a.1)

ne_test : (i j : ℕ) → not (eqb i j) ≡ true → i ≢ j
ne_test i j e = eqb-false i j (not-true (eqb i j) e)

test_ne : (i j : ℕ) → i ≢ j → not (eqb i j) ≡ true
test_ne i j h = ap not (ne_eqb i j h)

pub distinct_no_dup : (xs : List ℕ) → distinct xs ≡ true → NoDup xs
distinct_no_dup [] e = tt
distinct_no_dup (x ∷ xs) e =
    let s = and_split (every (λ j. not (eqb x j)) xs) (distinct xs) e in
    (all_map xs (ne_test x) (all_true (λ j. not (eqb x j)) xs s.0), distinct_no_dup xs s.1)

pub no_dup_distinct : (xs : List ℕ) → NoDup xs → distinct xs ≡ true
no_dup_distinct [] n = refl
no_dup_distinct (x ∷ xs) n =
    and_join (every (λ j. not (eqb x j)) xs) (distinct xs)
    (true_all (λ j. not (eqb x j)) xs (all_map xs (test_ne x) n.0))
    (no_dup_distinct xs n.1)

-- ---- the walk with fuel, and the chain that ends
pub walk_run : (f : ℕ → ℕ) (xs : List ℕ) (n i : ℕ) → Run f i xs → length xs ≤ n → walk f n i ≡ xs
walk_run f [] zero i r h = refl
walk_run f [] (suc n) i r h = ap (walk f (suc n)) r
walk_run f (x ∷ xs) zero i r h = absurd (omega arith)
walk_run f (zero ∷ xs) (suc n) i r h = absurd (let p : 0 < 0 = r.1 in omega arith)
walk_run f (suc x ∷ xs) (suc n) i r h =
    ap (walk f (suc n)) r.0 ∙ ap (λ (l : List ℕ). suc x ∷ l) (walk_run f xs n (f (suc x)) r.2 (omega arith))

pub walk_or : (f : ℕ → ℕ) (n i : ℕ) → Run f i (walk f n i) ⊎ (length (walk f n i) ≡ n)
walk_or f zero i = inr refl
walk_or f (suc n) zero = inl refl
walk_or f (suc n) (suc i) = ⊎_elim (λ r. inl (refl, omega arith, r)) (λ e. inr (ap suc e)) (walk_or f n (f (suc i)))

pub walk_positive : (f : ℕ → ℕ) (n i : ℕ) → All (λ x. 0 < x) (walk f n i)
walk_positive f zero i = tt
walk_positive f (suc n) zero = tt
walk_positive f (suc n) (suc i) = (omega arith, walk_positive f n (f (suc i)))

pub run_positive : (f : ℕ → ℕ) (i : ℕ) (xs : List ℕ) → Run f i xs → All (λ x. 0 < x) xs
run_positive f i [] r = tt
run_positive f i (x ∷ xs) r = (r.1, run_positive f (f x) xs r.2)

-- a chain that ends meets no index twice
run_length : (f : ℕ → ℕ) (i : ℕ) (xs ys : List ℕ) → Run f i xs → Run f i ys → length xs ≡ length ys
run_length f i [] [] p q = refl
run_length f i [] (y ∷ ys) p q = absurd (let a : i ≡ y = q.0 in let b : 0 < y = q.1 in omega arith)
run_length f i (x ∷ xs) [] p q = absurd (let a : i ≡ x = p.0 in let b : 0 < x = p.1 in omega arith)
run_length f i (x ∷ xs) (y ∷ ys) p q =
    ap suc (run_length f (f x) xs ys p.2 (subst (λ (k : ℕ). Run f (f k) ys) (sym q.0 ∙ p.0) q.2))

not_again : (f : ℕ → ℕ) (x n i : ℕ) (xs : List ℕ) → ((zs : List ℕ) → Run f (f x) zs → length zs ≡ n) → length xs ≤ n → Run f i xs → All (λ y. x ≢ y) xs
not_again f x n i [] u h r = tt
not_again f x n i (y ∷ ys) u h r = (
  (λ e. let q : length ys ≡ n = u ys (subst (λ (k : ℕ). Run f (f k) ys) (sym e) r.2) in omega arith),
  not_again f x n (f y) ys u (omega arith) r.2,
)

pub run_no_dup : (f : ℕ → ℕ) (i : ℕ) (xs : List ℕ) → Run f i xs → NoDup xs
run_no_dup f i [] r = tt
run_no_dup f i (x ∷ xs) r = (
  not_again f x (length xs) (f x) xs (λ zs z. run_length f (f x) zs xs z r.2) (omega arith) r.2,
  run_no_dup f (f x) xs r.2,
)

-- ---- distinct numbers from 1 to g are at most g
without : ℕ → List ℕ → List ℕ
without v [] = []
without v (x ∷ xs) = cond (eqb x v) (without v xs) (x ∷ without v xs)

without_all : (P : ℕ → Type 0) (v : ℕ) (xs : List ℕ) → All P xs → All (λ x. P x × (x ≢ v)) (without v xs)
unfolding without
without_all P v [] a = tt
without_all P v (x ∷ xs) a =
    by_test (eqb x v)
    (λ e. rw e (without_all P v xs a.1))
    (λ e. rw e ((a.0, eqb-false x v e), without_all P v xs a.1))

without_no_dup : (v : ℕ) (xs : List ℕ) → NoDup xs → NoDup (without v xs)
unfolding without
without_no_dup v [] n = tt
without_no_dup v (x ∷ xs) n =
    by_test (eqb x v)
    (λ e. rw e (without_no_dup v xs n.1))
    (λ e. rw e (all_map (without v xs) (λ y h. h.0) (without_all (λ y. x ≢ y) v xs n.0), without_no_dup v xs n.1))

without_none : (v : ℕ) (xs : List ℕ) → All (λ y. v ≢ y) xs → length (without v xs) ≡ length xs
unfolding without
without_none v [] a = refl
without_none v (x ∷ xs) a =
    rw (ne_eqb x v (λ e. a.0 (sym e))) (ap suc (without_none v xs a.1))

without_length : (v : ℕ) (xs : List ℕ) → NoDup xs → length xs ≤ suc (length (without v xs))
unfolding without
without_length v [] n = omega arith
without_length v (x ∷ xs) n =
    by_test (eqb x v)
    (λ e. rw e (omega (arith, without_none v xs (subst (λ (k : ℕ). All (λ y. k ≢ y) xs) (eqb-true x v e) n.0))))
    (λ e. rw e (omega (arith, without_length v xs n.1)))

pub pigeonhole : (g : ℕ) (xs : List ℕ) → NoDup xs → All (λ x. (0 < x) × (x ≤ g)) xs → length xs ≤ g
pigeonhole zero [] n a = omega arith
pigeonhole zero (x ∷ xs) n a = absurd (let p : (0 < x) × (x ≤ 0) = a.0 in omega arith)
pigeonhole (suc g) xs n a =
    omega (
      arith,
      without_length (suc g) xs n,
      pigeonhole g (without (suc g) xs) (without_no_dup (suc g) xs n)
          (all_map (without (suc g) xs) (λ x h. (h.0.0, let p : x ≤ suc g = h.0.1 in let q : x ≢ suc g = h.1 in omega arith)) (without_all (λ x. (0 < x) × (x ≤ suc g)) (suc g) xs a)),
    )

-- ---- the test that a loop makes: the chain ends within n steps, with every index below m
pub ends_run : (f : ℕ → ℕ) (m n i : ℕ) → ends f m n i ≡ true → (xs : List ℕ) × Run f i xs × All (λ x. x < m) xs × (length xs ≤ n)
ends_run f m zero i e = ([], eqb-true i 0 e, tt, omega arith)
ends_run f m (suc n) i e =
    by_test (eqb i 0)
    (λ z. ([], eqb-true i 0 z, tt, omega arith))
    (λ z.
    let s = and_split (ltb i m) (ends f m n (f i)) (subst (λ (b : Bool). cond b true (ltb i m && ends f m n (f i)) ≡ true) z e) in
    let r = ends_run f m n (f i) s.1 in
    let nz : i ≢ 0 = eqb-false i 0 z in
    let ln : length r.0 ≤ n = r.3 in
    (i ∷ r.0, (refl, omega arith, r.1), (ltb-true i m s.0, r.2), omega arith))

pub run_ends : (f : ℕ → ℕ) (m n i : ℕ) (xs : List ℕ) → Run f i xs → All (λ x. x < m) xs → length xs ≤ n → ends f m n i ≡ true
run_ends f m zero i [] r a h = eq-eqb i 0 r
run_ends f m zero i (x ∷ xs) r a h = absurd (omega arith)
run_ends f m (suc n) i [] r a h = rw (eq-eqb i 0 r)
run_ends f m (suc n) i (x ∷ xs) r a h =
    let e : i ≡ x = r.0 in
    let p : 0 < x = r.1 in
    let b : x < m = a.0 in
    rw (ne_eqb i 0 (omega arith))
    (and_join (ltb i m) (ends f m n (f i)) (lt-ltb i m (omega arith))
    (rw e (run_ends f m n (f x) xs r.2 a.1 (omega arith))))

bool_ext : (a b : Bool) → (a ≡ true → b ≡ true) → (b ≡ true → a ≡ true) → a ≡ b
bool_ext true b p q = sym (p refl)
bool_ext false true p q = q refl
bool_ext false false p q = refl

-- in a chain that ends, with every index below m, there are fewer than m
pub run_short : (f : ℕ → ℕ) (m i : ℕ) (xs : List ℕ) → 0 < m → Run f i xs → All (λ x. x < m) xs → length xs < m
run_short f zero i xs h r a = absurd (omega arith)
run_short f (suc m) i xs h r a =
    let p : length xs ≤ m = pigeonhole m xs (run_no_dup f i xs r) (all_zip xs (λ x b d. (b, omega arith)) (run_positive f i xs r) a) in
    omega arith

-- what number 13 asks, of the walk with m steps: it holds exactly when the walk is a chain that ends
pub sound_run : (f : ℕ → ℕ) (m i : ℕ) → 0 < m → every (λ x. ltb x m) (walk f m i) && distinct (walk f m i) ≡ true
    → Run f i (walk f m i) × All (λ x. x < m) (walk f m i)
sound_run f m i h e =
    let s = and_split (every (λ x. ltb x m) (walk f m i)) (distinct (walk f m i)) e in
    let a : All (λ x. x < m) (walk f m i) = all_map (walk f m i) (λ x. ltb-true x m) (all_true (λ x. ltb x m) (walk f m i) s.0) in
    ⊎_elim (λ r. (r, a)) (λ l. absurd (full m h l a (distinct_no_dup (walk f m i) s.1))) (walk_or f m i)
  where
    full : (k : ℕ) → 0 < k → length (walk f m i) ≡ k → All (λ x. x < k) (walk f m i) → NoDup (walk f m i) → ⊥
    full zero h l a n = omega arith
    full (suc k) h l a n =
        let p : length (walk f m i) ≤ k = pigeonhole k (walk f m i) n (all_zip (walk f m i) (λ x b d. (b, omega arith)) (walk_positive f m i) a) in
        omega arith

pub run_sound : (f : ℕ → ℕ) (m i : ℕ) (xs : List ℕ) → 0 < m → Run f i xs → All (λ x. x < m) xs
    → every (λ x. ltb x m) xs && distinct xs ≡ true
run_sound f m i xs h r a =
    and_join (every (λ x. ltb x m) xs) (distinct xs)
    (true_all (λ x. ltb x m) xs (all_map xs (λ x. lt-ltb x m) a)) (no_dup_distinct xs (run_no_dup f i xs r))

pub sound_ends : (f : ℕ → ℕ) (m i : ℕ) → 0 < m → every (λ x. ltb x m) (walk f m i) && distinct (walk f m i) ≡ ends f m m i
sound_ends f m i h =
    bool_ext (every (λ x. ltb x m) (walk f m i) && distinct (walk f m i)) (ends f m m i)
    (λ e. let p = sound_run f m i h e in
    run_ends f m m i (walk f m i) p.0 p.1 (let q : length (walk f m i) < m = run_short f m i (walk f m i) h p.0 p.1 in omega arith))
    (λ e. let p = ends_run f m m i e in
    subst (λ (c : List ℕ). every (λ x. ltb x m) c && distinct c ≡ true) (sym (walk_run f p.0 m i p.1 p.3))
    (run_sound f m i p.0 h p.1 p.2))

-- ---- one more index at the end of a chain, whose head is d
pub last_all : (P : ℕ → Type 0) (d : ℕ) (c : List ℕ) → P d → All P c → P (last_of d c)
last_all P d [] p a = p
last_all P d (x ∷ xs) p a = last_all P x xs a.0 a.1

pub all_snoc : (P : ℕ → Type 0) (c : List ℕ) (j : ℕ) → All P c → P j → All P (c ++ (j ∷ []))
all_snoc P [] j a p = (p, tt)
all_snoc P (x ∷ xs) j a p = (a.0, all_snoc P xs j a.1 p)

-- f' is f but at the last of d and c, where it is j, and at j, where it is 0
pub run_extend : (f f' : ℕ → ℕ) (d j : ℕ) (c : List ℕ) → NoDup (d ∷ c) → Run f (f d) c
    → ((x : ℕ) → x ≢ last_of d c → x ≢ j → f' x ≡ f x) → All (λ x. x ≢ j) (d ∷ c)
    → f' (last_of d c) ≡ j → 0 < j → f' j ≡ 0 → Run f' (f' d) (c ++ (j ∷ []))
run_extend f f' d j [] n r same ne e p z = (e, p, z)
run_extend f f' d j (x ∷ xs) n r same ne e p z = (
  same d (last_all (λ y. d ≢ y) x xs n.0.0 n.0.1) ne.0 ∙ r.0,
  r.1,
  run_extend f f' x j xs n.1 r.2 same ne.1 e p z,
)

-- f' is f at each of a chain's indexes but perhaps its last
pub gather-same : {A : Type 0} (g g' : ℕ → List A) (c : List ℕ) → All (λ x. g' x ≡ g x) c → gather g' c ≡ gather g c
gather-same g g' [] a = refl
gather-same g g' (x ∷ xs) a = cc (gather-same g g' xs a.1, a.0)

pub gather_snoc : {A : Type 0} (g : ℕ → List A) (c : List ℕ) (j : ℕ) → gather g (c ++ (j ∷ [])) ≡ gather g c ++ g j
gather_snoc g [] j = append-nil (g j)
gather_snoc g (x ∷ xs) j = ap (λ l. g x ++ l) (gather_snoc g xs j) ∙ sym (append_assoc (g x) (gather g xs) (g j))

pub sum_same : (g g' : ℕ → ℕ) (c : List ℕ) → All (λ x. g' x ≡ g x) c → sum_over g' c ≡ sum_over g c
sum_same g g' [] a = refl
sum_same g g' (x ∷ xs) a = omega (arith, sum_same g g' xs a.1, a.0)

pub sum_append : {A : Type 0} (g : A → ℕ) (xs ys : List A) → sum_over g (xs ++ ys) ≡ sum_over g xs + sum_over g ys
sum_append g [] ys = omega arith
sum_append g (x ∷ xs) ys = omega (arith, sum_append g xs ys)

pub sum_snoc : (g : ℕ → ℕ) (c : List ℕ) (j : ℕ) → sum_over g (c ++ (j ∷ [])) ≡ sum_over g c + g j
sum_snoc g c j = omega (arith, sum_append g c (j ∷ []))

pub below-greatest : (c : List ℕ) → All (λ x. x ≤ greatest c) c
below-greatest [] = tt
below-greatest (x ∷ xs) = (omega arith, all_map xs (λ y h. omega arith) (below-greatest xs))

pub greatest-below : (m : ℕ) (c : List ℕ) → 0 < m → All (λ x. x < m) c → greatest c < m
greatest-below m [] h a = h
greatest-below m (x ∷ xs) h a = max-lt m x (greatest xs) a.0 (greatest-below m xs h a.1)
  where
    max-lt : (m a b : ℕ) → a < m → b < m → max a b < m
    max-lt m a b p q = omega arith

greatest_snoc : (c : List ℕ) (j : ℕ) → greatest c ≤ j → greatest (c ++ (j ∷ [])) ≡ j
greatest_snoc [] j h = omega arith
greatest_snoc (x ∷ xs) j h = ap (max x) (greatest_snoc xs j (omega arith)) ∙ omega arith

pub greatest_new : (c : List ℕ) → greatest (c ++ ((greatest c + 1) ∷ [])) ≡ greatest c + 1
greatest_new c = greatest_snoc c (greatest c + 1) (omega arith)

pub last_snoc : (d : ℕ) (c : List ℕ) (j : ℕ) → last_of d (c ++ (j ∷ [])) ≡ j
last_snoc d [] j = refl
last_snoc d (x ∷ xs) j = last_snoc x xs j

-- g' is g but at a chain's last index
pub gather_last : {A : Type 0} (g g' : ℕ → List A) (es : List A) (x : ℕ) (c : List ℕ) → NoDup (x ∷ c)
    → All (λ y. y ≢ last_of x c → g' y ≡ g y) (x ∷ c) → g' (last_of x c) ≡ g (last_of x c) ++ es → gather g' (x ∷ c) ≡ gather g (x ∷ c) ++ es
gather_last g g' es x [] n same e = append-nil (g' x) ∙ e ∙ ap (λ l. l ++ es) (sym (append-nil (g x)))
gather_last g g' es x (y ∷ c) n same e =
    ap (λ l. l ++ gather g' (y ∷ c)) (same.0 (last_all (λ z. x ≢ z) y c n.0.0 n.0.1))
    ∙ ap (λ l. g x ++ l) (gather_last g g' es y c n.1 same.1 e)
    ∙ sym (append_assoc (g x) (gather g (y ∷ c)) es)

pub sum_last : (g g' : ℕ → ℕ) (m x : ℕ) (c : List ℕ) → NoDup (x ∷ c)
    → All (λ y. y ≢ last_of x c → g' y ≡ g y) (x ∷ c) → g' (last_of x c) ≡ g (last_of x c) + m → sum_over g' (x ∷ c) ≡ sum_over g (x ∷ c) + m
sum_last g g' m x [] n same e = omega arith
sum_last g g' m x (y ∷ c) n same e =
    omega (arith, same.0 (last_all (λ z. x ≢ z) y c n.0.0 n.0.1), sum_last g g' m y c n.1 same.1 e)

pub run_same : (f f' : ℕ → ℕ) (i : ℕ) (c : List ℕ) → ((x : ℕ) → f' x ≡ f x) → Run f i c → Run f' i c
run_same f f' i [] same r = r
run_same f f' i (x ∷ xs) same r = (r.0, r.1, rw (same x) (run_same f f' (f x) xs same r.2))
