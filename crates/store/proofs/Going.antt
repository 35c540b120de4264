-- The loop that follows a chain: what holds after k records, at index i. Assumes nothing.
use mathlib.Core.Path.{◌≡◌, refl, sym, ap, ◌∙◌}
use mathlib.Core.Bool.{Bool, true, false, ◌&&◌, and_assoc, and-true, false≢true}
use mathlib.Core.List.{List, [], ◌∷◌}
use Prim.Native.Nat.{ℕ, zero, suc, ◌+◌, ◌*◌, ◌-◌, ◌/◌, ◌≤◌, ◌<◌, max}
use native.Mathlib.Nat.{sub-zero}
use native.Mathlib.Omega.{arith}
use lib.ListN.{length}
use borrow.Author.Tests.{ne_eqb, lt-ltb, le-ltb}
use Rattle.store.specs.declared.Trail.{Trail}
use Rattle.line.specs.Table.{every}
use Rattle.store.specs.Chain.{walk, last_of, greatest, ends, sum_over}
use Rattle.store.specs.Layout.{count, rec, next, record_ok, span_of}
use Rattle.store.specs.Store.{chain, chain_ok, records_ok}
use Rattle.store.specs.Walk.{Sized, Passed, Walked}
use Rattle.store.proofs.Chains.{sound_ends}

pub walk_step : (f : ℕ → ℕ) (m n i : ℕ) → m ≡ suc n → (i ≡ 0 → ⊥) → walk f m i ≡ i ∷ walk f n (f i)
walk_step f m n zero e h = absurd (h refl)
walk_step f m n (suc i) e h = ap (λ (k : ℕ). walk f k (suc i)) e

pub walk-zero : (f : ℕ → ℕ) (m : ℕ) → walk f m 0 ≡ []
walk-zero f zero = refl
walk-zero f (suc m) = refl

pub ends_step : (f : ℕ → ℕ) (b m n i : ℕ) → m ≡ suc n → (i ≡ 0 → ⊥) → i < b → ends f b m i ≡ ends f b n (f i)
ends_step f b m n i e h lt = ap (λ (k : ℕ). ends f b k i) e ∙ rw (ne_eqb i 0 h, lt-ltb i b lt)

ends_zero : (f : ℕ → ℕ) (b m : ℕ) → ends f b m 0 ≡ true
ends_zero f b zero = refl
ends_zero f b (suc m) = refl

ends_past : (f : ℕ → ℕ) (b m i : ℕ) → (i ≡ 0 → ⊥) → b ≤ i → ends f b m i ≡ false
ends_past f b zero i h le = ne_eqb i 0 h
ends_past f b (suc m) i h le = rw (ne_eqb i 0 h, le-ltb i b le)

ends_out : (f : ℕ → ℕ) (b m i : ℕ) → (i ≡ 0 → ⊥) → m ≡ 0 → ends f b m i ≡ false
ends_out f b m i h e = ap (λ (k : ℕ). ends f b k i) e ∙ ne_eqb i 0 h

max-three : (a b c : ℕ) → max a (max b c) ≡ max (max a b) c
max-three a b c = omega arith

pub record Going (s : List ℕ) (n : ℕ) (t : Trail) (i k : ℕ) : Type 0 where
  pub size : Sized s
  pub counted : n ≡ count s
  pub steps : k ≤ n
  pub open_yet : t.ends ≡ false
  pub room : t.sum ≤ 4294967296 * k
  pub ending : ends (next s) n n (next s 0) ≡ ends (next s) n (n - k) i
  pub fine : every (λ j. record_ok (rec s j)) (walk (next s) n (next s 0)) ≡ (t.fine && every (λ j. record_ok (rec s j)) (walk (next s) (n - k) i))
  pub sum : sum_over (λ j. span_of (rec s j)) (walk (next s) n (next s 0)) ≡ t.sum + sum_over (λ j. span_of (rec s j)) (walk (next s) (n - k) i)
  pub last : last_of 0 (walk (next s) n (next s 0)) ≡ last_of t.last (walk (next s) (n - k) i)
  pub most : greatest (walk (next s) n (next s 0)) ≡ max t.greatest (greatest (walk (next s) (n - k) i))

pub going_start : (s : List ℕ) (i : ℕ) → Sized s → i ≡ next s 0
    → Going s (length s / 32) (record { ends = false; fine = true; sum = 0; last = 0; greatest = 0 }) i 0
going_start s i z e =
    record {
      size = z;
      counted = refl;
      steps = omega arith;
      open_yet = refl;
      room = omega arith;
      ending = simp (sub-zero, e);
      fine = simp (sub-zero, e);
      sum = simp (sub-zero, e) (omega arith);
      last = simp (sub-zero, e);
      most = simp (sub-zero, e) (omega arith);
    }

pub going_step : (s : List ℕ) (n : ℕ) (t t' : Trail) (i i' k : ℕ) → Going s n t i k → (i ≡ 0 → ⊥) → i < n → k < n
    → Passed s i t t' → i' ≡ next s i → Going s n t' i' (k + 1)
going_step s n t t' i i' k g nz lt kt p e =
    let m : n - k ≡ suc (n - (k + 1)) = omega arith in
    let w : walk (next s) (n - k) i ≡ i ∷ walk (next s) (n - (k + 1)) i' =
    walk_step (next s) (n - k) (n - (k + 1)) i m nz ∙ ap (λ (x : ℕ). i ∷ walk (next s) (n - (k + 1)) x) (sym e) in
    let v : ends (next s) n (n - k) i ≡ ends (next s) n (n - (k + 1)) i' =
    ends_step (next s) n (n - k) (n - (k + 1)) i m nz lt ∙ ap (ends (next s) n (n - (k + 1))) (sym e) in
    record {
      size = g.size;
      counted = g.counted;
      steps = omega arith;
      open_yet = p.ends ∙ g.open_yet;
      room = omega (arith, g.room, p.room);
      ending = g.ending ∙ v;
      fine = g.fine ∙ ap (λ (c : List ℕ). t.fine && every (λ j. record_ok (rec s j)) c) w ∙ sym (and_assoc t.fine (record_ok (rec s i)) (every (λ j. record_ok (rec s j)) (walk (next s) (n - (k + 1)) i')))
          ∙ ap (λ (x : Bool). x && every (λ j. record_ok (rec s j)) (walk (next s) (n - (k + 1)) i')) (sym p.fine);
      sum = g.sum ∙ ap (λ (c : List ℕ). t.sum + sum_over (λ j. span_of (rec s j)) c) w ∙ omega (arith, p.sum);
      last = g.last ∙ ap (last_of t.last) w ∙ ap (λ (x : ℕ). last_of x (walk (next s) (n - (k + 1)) i')) (sym p.last);
      most = g.most ∙ ap (λ (c : List ℕ). max t.greatest (greatest c)) w ∙ max-three t.greatest i (greatest (walk (next s) (n - (k + 1)) i'))
          ∙ ap (λ (x : ℕ). max x (greatest (walk (next s) (n - (k + 1)) i'))) (sym p.most);
    }

chain_ends : (s : List ℕ) (n : ℕ) → Sized s → n ≡ count s → chain_ok s ≡ ends (next s) n n (next s 0)
unfolding chain_ok chain
chain_ends s n z e = rw e (sound_ends (next s) (count s) (next s 0) (omega (arith, z.least)))

pub going_stops : (s : List ℕ) (n : ℕ) (t : Trail) (i k : ℕ) → Going s n t i k → ends (next s) n (n - k) i ≡ false → Walked s t
going_stops s n t i k g e =
    let f : t.ends ≡ false = g.open_yet in
    record {
      ends = f ∙ sym (chain_ends s n g.size g.counted ∙ g.ending ∙ e);
      fine = λ h. absurd (false≢true (sym f ∙ h));
      sum = λ h. absurd (false≢true (sym f ∙ h));
      last = λ h. absurd (false≢true (sym f ∙ h));
      most = λ h. absurd (false≢true (sym f ∙ h));
    }

pub going_past : (s : List ℕ) (n : ℕ) (t : Trail) (i k : ℕ) → Going s n t i k → (i ≡ 0 → ⊥) → n ≤ i → Walked s t
going_past s n t i k g nz le = going_stops s n t i k g (ends_past (next s) n (n - k) i nz le)

pub going_long : (s : List ℕ) (n : ℕ) (t : Trail) (i k : ℕ) → Going s n t i k → (i ≡ 0 → ⊥) → n ≤ k → Walked s t
going_long s n t i k g nz le = going_stops s n t i k g (ends_out (next s) n (n - k) i nz (omega arith))

pub going_end : (s : List ℕ) (n : ℕ) (t : Trail) (i k : ℕ) → Going s n t i k → i ≡ 0
    → Walked s (record { ends = true; fine = t.fine; sum = t.sum; last = t.last; greatest = t.greatest })
unfolding chain records_ok
going_end s n t i k g e =
    let w : walk (next s) (n - k) i ≡ [] = ap (walk (next s) (n - k)) e ∙ walk-zero (next s) (n - k) in
    let c : walk (next s) (count s) (next s 0) ≡ walk (next s) n (next s 0) = ap (λ (m : ℕ). walk (next s) m (next s 0)) (sym g.counted) in
    record {
      ends = sym (chain_ends s n g.size g.counted ∙ g.ending ∙ ap (ends (next s) n (n - k)) e ∙ ends_zero (next s) n (n - k));
      fine = λ h. sym (ap (every (λ j. record_ok (rec s j))) c ∙ g.fine ∙ ap (λ (x : List ℕ). t.fine && every (λ j. record_ok (rec s j)) x) w ∙ and-true t.fine);
      sum = λ h. sym (ap (sum_over (λ j. span_of (rec s j))) c ∙ g.sum ∙ ap (λ (x : List ℕ). t.sum + sum_over (λ j. span_of (rec s j)) x) w ∙ omega arith);
      last = λ h. sym (ap (last_of 0) c ∙ g.last ∙ ap (last_of t.last) w);
      most = λ h. sym (ap greatest c ∙ g.most ∙ ap (λ (x : List ℕ). max t.greatest (greatest x)) w ∙ omega arith);
    }
