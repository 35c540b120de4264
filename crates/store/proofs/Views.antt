-- What an inspection tells, from the walk, and what is known of a store that it accepts. Assumes nothing.
use mathlib.Core.Path.{◌≡◌, refl, sym, ap, ◌∙◌}
use mathlib.Core.Bool.{Bool, true, false}
use mathlib.Core.List.{List, [], ◌∷◌}
use Prim.Native.Nat.{ℕ, ◌<◌, ◌≤◌}
use native.Mathlib.Omega.{arith}
use lib.Dec.{eqb, leb}
use borrow.Author.Tests.{leb-true}
use lib.ListN.{get_or}
use Rattle.std.specs.Prelude.{Ok, Err}
use Rattle.line.specs.declared.refusal.Refusal.{Refusal}
use Rattle.line.specs.Refusal.{number, need}
use Rattle.line.proofs.RefusalLaws.{need-zero, some_number, left_done, left_kept}
use Rattle.octets.specs.Number.{u32}
use Rattle.line.proofs.Tests.{by_test}
use Rattle.store.specs.declared.Trail.{Trail}
use Rattle.store.specs.declared.View.{View}
use Rattle.store.specs.Chain.{greatest, sum_over}
use Rattle.store.specs.Layout.{rec, total_at, span_of}
use Rattle.store.specs.Store.{chain, last_in, total, size_ok, head_ok, chain_ok, records_ok, total_ok, refusal}
use Rattle.store.specs.Walk.{Walked, Tells, Viewed, view_of, sized_number}
use Rattle.store.proofs.Records.{total-at}
use Rattle.store.proofs.Sounds.{accepted_sound, sound_last, sound_greatest}

open_any : (a : Bool) (x y : ℕ) → need a 12 (need false 13 x) ≡ need a 12 (need false 13 y)
open_any true x y = refl
open_any false x y = refl

-- a need that refuses is not met
pub need_unmet : (b : Bool) (n : ℕ) (e : Refusal) → number e ≡ need b n 0 → (b ≡ false) × (number e ≡ n)
need_unmet true n e h = absurd (some_number e h)
need_unmet false n e h = (refl, h)

-- and one that lets pass, of a bound, is
pub need_within : (a b n : ℕ) → 0 < n → 0 ≡ need (leb a b) n 0 → a ≤ b
need_within a b n h e = leb-true a b (need-zero (leb a b) n 0 h (sym e)).0

-- a refusal
pub tells_refused : (s : List ℕ) (e : Refusal) → number e ≡ refusal s → Tells s (Err e)
tells_refused s e h = record { number = h; views = left_kept (refusal s) (view_of s ∷ []) [] (λ z. some_number e (h ∙ z)); small = tt }

-- a store of a right size, from its walk
module _ (s : List ℕ) (t : Trail) (head : Bool) (all : ℕ) (z : size_ok s ≡ true) (w : Walked s t) (h : head ≡ head_ok (rec s 0))
    (a : all ≡ u32 s total_at) where
  abbrev tail : ℕ
  tail = need (records_ok s) 14 (need (eqb (total s) (sum_over (λ i. span_of (rec s i)) (chain s))) 15 0)

  abbrev mine : ℕ
  mine = need t.fine 14 (need (eqb all t.sum) 15 0)

  closed : t.ends ≡ true → need head 12 (need t.ends 13 mine) ≡ need (head_ok (rec s 0)) 12 (need (chain_ok s) 13 tail)
  closed e = cc (h, w.ends, w.fine e, w.sum e, a, total-at s)

  open_end : t.ends ≡ false → need head 12 (need t.ends 13 mine) ≡ need (head_ok (rec s 0)) 12 (need (chain_ok s) 13 tail)
  open_end e =
      ap (λ (b : Bool). need head 12 (need b 13 mine)) e
      ∙ open_any head mine tail
      ∙ ap (λ (b : Bool). need b 12 (need false 13 tail)) h
      ∙ ap (λ (b : Bool). need (head_ok (rec s 0)) 12 (need b 13 tail)) (sym e ∙ w.ends)

  sized_number_lem : sized_number head t all ≡ refusal s
  unfolding refusal total_ok
  sized_number_lem = rw z (by_test t.ends closed open_end)

  pub tells_fault : (e : Refusal) → number e ≡ sized_number head t all → Tells s (Err e)
  tells_fault e n = tells_refused s e (n ∙ sized_number_lem)

  pub tells_accepted : all < 4294967296 → 0 ≡ sized_number head t all → Tells s (Ok (record { last = t.last; greatest = t.greatest; total = all }))
  tells_accepted b e =
      let d : t.ends ≡ true = (need-zero t.ends 13 mine (omega arith) (need-zero head 12 (need t.ends 13 mine) (omega arith) (sym e)).1).0 in
      record {
        number = e ∙ sized_number_lem;
        views = cc (w.last d, w.most d, a, total-at s) ∙ left_done (refusal s) (view_of s ∷ []) [] (sym (e ∙ sized_number_lem));
        small = (b, tt);
      }

-- a store of another size
pub tells_size : (s : List ℕ) (e : Refusal) → number e ≡ need (size_ok s) 11 0 → Tells s (Err e)
tells_size s e n = let u = need_unmet (size_ok s) 11 e n in tells_refused s e (unfold refusal in rw u.0 u.1)

-- what is seen of an accepted store
pub told_viewed : (s : List ℕ) (v : View) → Tells s (Ok v) → Viewed s v
told_viewed s v w =
    let acc : refusal s ≡ 0 = sym w.number in
    let o = accepted_sound s acc in
    let q : v ≡ view_of s = ap (λ l. get_or l 0 v) (w.views ∙ sym (left_done (refusal s) (view_of s ∷ []) [] acc)) in
    let b : v.total < 4294967296 = w.small.0 in
    let l : v.last ≡ last_in s = ap (λ (x : View). x.last) q in
    let m : v.greatest ≡ greatest (chain s) = ap (λ (x : View). x.greatest) q in
    record {
      accepted = acc;
      last = l;
      most = m;
      total_is = ap (λ (x : View). x.total) q;
      small = (omega (arith, l, sound_last s o, o.most), omega (arith, m, sound_greatest s o, o.most), b);
    }
