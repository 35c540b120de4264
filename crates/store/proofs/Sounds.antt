-- An accepted store with its chain at hand. Assumes nothing.
use mathlib.Core.Path.{◌≡◌}
use mathlib.Core.Bool.{true, ◌&&◌}
use mathlib.Core.List.{List}
use Prim.Native.Nat.{ℕ, ◌*◌, ◌%◌, ◌≤◌, ◌<◌}
use native.Mathlib.Omega.{arith}
use borrow.Author.Tests.{eqb-true, eq-eqb, leb-true, le-leb}
use lib.Dec.{eqb, leb}
use lib.ListN.{length}
use Rattle.line.proofs.RefusalLaws.{need-zero}
use Rattle.line.proofs.Tests.{and_split}
use Rattle.line.specs.Table.{All}
use Rattle.store.specs.Chain.{greatest, sum_over}
use Rattle.store.specs.Layout.{count, rec, next, record_ok, span_of}
use Rattle.line.specs.Refusal.{need}
use Rattle.store.specs.Store.{chain, last_in, total, size_ok, head_ok, chain_ok, records_ok, total_ok, refusal}
use Rattle.store.specs.Walk.{Sized}
use Rattle.store.proofs.Chains.{Run, all_true, true_all, walk_run, run_short, sound_run, run_sound, last_all, greatest-below}

-- ---- what an accepted store is, with its chain c at hand
pub record Sound (s c : List ℕ) : Type 0 where
  pub whole : length s ≡ 32 * count s
  pub least : 2 ≤ count s
  pub most : count s ≤ 2048
  pub head : head_ok (rec s 0) ≡ true
  pub run : Run (next s) (next s 0) c
  pub within : All (λ i. i < count s) c
  pub records : All (λ i. record_ok (rec s i) ≡ true) c
  pub sum : total s ≡ sum_over (λ i. span_of (rec s i)) c

pub sound_chain : (s c : List ℕ) → Sound s c → chain s ≡ c
unfolding chain
sound_chain s c o =
    let h : length c < count s = run_short (next s) (count s) (next s 0) c (omega arith) o.run o.within in
    walk_run (next s) c (count s) (next s 0) o.run (omega arith)

pub size_sized : (s : List ℕ) → size_ok s ≡ true → Sized s
unfolding size_ok
size_sized s e =
    let z = and_split (eqb (length s % 32) 0 && leb 64 (length s)) (leb (length s) 65536) e in
    let y = and_split (eqb (length s % 32) 0) (leb 64 (length s)) z.0 in
    let m : length s % 32 ≡ 0 = eqb-true (length s % 32) 0 y.0 in
    let p : 64 ≤ length s = leb-true 64 (length s) y.1 in
    let q : length s ≤ 65536 = leb-true (length s) 65536 z.1 in
    record { whole = omega arith; least = omega arith; most = omega arith }

pub sound_accepted : (s c : List ℕ) → Sound s c → refusal s ≡ 0
unfolding refusal chain_ok records_ok total_ok size_ok
sound_accepted s c o =
    let w : length s ≡ 32 * count s = o.whole in
    let p : 2 ≤ count s = o.least in
    let q : count s ≤ 2048 = o.most in
    rw (
      eq-eqb (length s % 32) 0 (omega arith),
      le-leb 64 (length s) (omega arith),
      le-leb (length s) 65536 (omega arith),
      o.head,
      sound_chain s c o,
      run_sound (next s) (count s) (next s 0) c (omega arith) o.run o.within,
      true_all (λ i. record_ok (rec s i)) c o.records,
      eq-eqb (total s) (sum_over (λ i. span_of (rec s i)) c) o.sum,
    )

chain_run : (s : List ℕ) → 0 < count s → chain_ok s ≡ true → Run (next s) (next s 0) (chain s) × All (λ i. i < count s) (chain s)
unfolding chain chain_ok
chain_run s h e = sound_run (next s) (count s) (next s 0) h e

pub sound_size : (s : List ℕ) → refusal s ≡ 0 → size_ok s ≡ true
unfolding refusal
sound_size s e =
    (need-zero (size_ok s) 11 (need (head_ok (rec s 0)) 12 (need (chain_ok s) 13 (need (records_ok s) 14 (need (total_ok s) 15 0)))) (omega arith) e).0

pub accepted_sound : (s : List ℕ) → refusal s ≡ 0 → Sound s (chain s)
unfolding refusal records_ok total_ok
accepted_sound s e =
    let fourth : ℕ = need (total_ok s) 15 0 in
    let third : ℕ = need (records_ok s) 14 fourth in
    let second : ℕ = need (chain_ok s) 13 third in
    let first : ℕ = need (head_ok (rec s 0)) 12 second in
    let a = need-zero (size_ok s) 11 first (omega arith) e in
    let b = need-zero (head_ok (rec s 0)) 12 second (omega arith) a.1 in
    let c = need-zero (chain_ok s) 13 third (omega arith) b.1 in
    let d = need-zero (records_ok s) 14 fourth (omega arith) c.1 in
    let f = need-zero (total_ok s) 15 0 (omega arith) d.1 in
    let z = size_sized s a.0 in
    let r = chain_run s (omega (arith, z.least)) c.0 in
    record {
      whole = z.whole;
      least = z.least;
      most = z.most;
      head = b.0;
      run = r.0;
      within = r.1;
      records = all_true (λ i. record_ok (rec s i)) (chain s) d.0;
      sum = eqb-true (total s) (sum_over (λ i. span_of (rec s i)) (chain s)) f.0;
    }

-- the last and the greatest index of an accepted store lie in it
pub sound_last : (s : List ℕ) → Sound s (chain s) → last_in s < count s
sound_last s o = last_all (λ x. x < count s) 0 (chain s) (omega (arith, o.least)) o.within

pub sound_greatest : (s : List ℕ) → Sound s (chain s) → greatest (chain s) < count s
sound_greatest s o = greatest-below (count s) (chain s) (omega (arith, o.least)) o.within
