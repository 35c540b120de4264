-- The pieces of a listing make its text. Assumes nothing.
use mathlib.Core.Path.{◌≡◌, sym, ap, ◌∙◌}
use mathlib.Core.Bool.{true, false, and-false}
use mathlib.Core.List.{List, [], ◌∷◌, ◌++◌, map}
use Prim.Native.Nat.{ℕ, zero, suc, ◌+◌, ◌≤◌, ◌<◌}
use native.Mathlib.Omega.{arith}
use native.Mathlib.Nat.{zero-add}
use borrow.Author.Tests.{le-leb, lt-leb}
use lib.Dec.{leb}
use lib.ListN.{length, get_or, take, drop, length-append}
use lib.Seq.{sets-eq, take_at, length-take-le}
use Rattle.line.specs.declared.refusal.Refusal.{Refusal}
use Rattle.line.specs.Refusal.{number, need, accepted}
use Rattle.line.proofs.RefusalLaws.{some_number, left_kept}
use Rattle.receiver.specs.declared.Receiver.{Receiver}
use Rattle.receiver.specs.Receiver.{fresh_receiver}
use Rattle.receiver.specs.Calls.{EachAccepted}
use Rattle.store.specs.Store.{events, total, size_ok, refusal}
use Rattle.store.proofs.Records.{rec_byte}
use Rattle.summing.specs.declared.EventSums.{EventSums}
use Rattle.summing.specs.Sums.{sums_of}
use Rattle.listing.specs.Text.{taken, lines, first_line, sum_line, chain_text, refused_line, mode_in, role_in, text, longest, list_number, list_counts, list_result}
use Rattle.listing.specs.Laws.{TooLong}
use Rattle.listing.specs.Wrote.{Wrote}
use Rattle.listing.proofs.Writes.{wrote_then, wrote_as}
use Rattle.listing.proofs.Lengths.{track_long, none_longer}
use Rattle.listing.proofs.Heards.{heard-whole}

pub accepted-text : (s : List ℕ) → refusal s ≡ 0 → text s ≡ chain_text (mode_in s) (role_in s) (total s) (events s)
unfolding text
accepted-text s e = rw e

module _ (s : List ℕ) (m role t : ℕ) (f : Receiver) (acc : refusal s ≡ 0) (em : m ≡ get_or s 4 0) (er : role ≡ get_or s 5 0) (et : t ≡ total s) (ef : f ≡ fresh_receiver m role) where
  mode_is : m ≡ mode_in s
  mode_is = em ∙ sym (rec_byte s 0 4 (omega arith))

  role_is : role ≡ role_in s
  role_is = er ∙ sym (rec_byte s 0 5 (omega arith))

  track_text : first_line m role t ++ (lines f (map taken (events s)) ++ sum_line (sums_of (events s))) ≡ text s
  unfolding chain_text
  track_text = rw (ef, mode_is, role_is, et) (sym (accepted-text s acc))

  pub track_free : t ≤ 4294967295 → EachAccepted f (map taken (events s))
  track_free h = rw (ef, mode_is, role_is) (heard-whole s acc (omega (arith, et)))

  pub track_room : (p : ℕ) → p ≡ 0 + length (first_line m role t) → p + length (lines f (map taken (events s))) ≤ 500000
  track_room p e =
      let ls : List ℕ = lines f (map taken (events s)) in
      omega (
        arith,
        length-append (first_line m role t) (ls ++ sum_line (sums_of (events s))),
        length-append ls (sum_line (sums_of (events s))),
        ap length track_text,
        ap length (accepted-text s acc),
        track_long s acc,
      )

  pub track_wrote : {o o₁ o₂ o' : List ℕ} {p q r : ℕ} (v : EventSums) → v ≡ sums_of (events s) → Wrote o 0 (first_line m role t) o₁ p
      → Wrote o₁ p (lines f (map taken (events s))) o₂ q → Wrote o₂ q (sum_line v) o' r → Wrote o 0 (text s) o' r
  track_wrote v ev a b c = wrote_as track_text (wrote_then a (wrote_then b (wrote_as (ap sum_line ev) c)))

-- ---- the call
module _ (s out : List ℕ) where
  pub list_short : (f : Refusal) → number f ≡ need (leb longest (length out)) 7 0 → (number f ≡ list_number (length out)) × ([] ≡ list_counts s (length out)) × (out ≡ list_result s out)
  unfolding list_number list_result
  list_short f e =
      let k : need (leb longest (length out)) 7 0 ≡ 0 → ⊥ = λ z. some_number f (e ∙ z) in
      (e, left_kept (need (leb longest (length out)) 7 0) _ _ k, left_kept (need (leb longest (length out)) 7 0) _ _ k)

  pub list_done : (out' : List ℕ) (n : ℕ) → 0 ≡ need (leb longest (length out)) 7 0 → Wrote out 0 (text s) out' n
      → (0 ≡ list_number (length out)) × (n ∷ [] ≡ list_counts s (length out)) × (out' ≡ list_result s out)
  unfolding list_number list_result
  list_done out' n e w =
      (e, rw (← e) (ap (λ (k : ℕ). k ∷ []) (w.behind ∙ zero-add (length (text s)))), rw (← e) w.written)

-- ---- a refused store
pub refused_text : (s : List ℕ) (k : ℕ) → k ≡ refusal s → (k ≡ 0 → ⊥) → refused_line k ≡ text s
unfolding text
refused_text s k e nz = go (refusal s) e
  where
    go : (n : ℕ) → k ≡ n → refused_line k ≡ accepted n (chain_text (mode_in s) (role_in s) (total s) (events s)) (refused_line n)
    go zero q = absurd (nz q)
    go (suc n) q = ap refused_line q

refused_over : (s : List ℕ) → 65536 < length s → text s ≡ refused_line 11
unfolding refusal size_ok
refused_over s h = sym (refused_text s 11 (rw (lt-leb (length s) 65536 h, and-false)) (λ e. omega arith))

pub too_long : TooLong
too_long s h = (refused_over s h, refused_over (take 65537 s) (omega (arith, length-take-le 65537 s (omega arith))))

-- what a caller with room for any listing reads back
module _ (s out out' : List ℕ) (l : length out ≡ longest) (ks : List ℕ) (e : ks ≡ list_counts s (length out)) (w : out' ≡ list_result s out) where
  room : leb longest (length out) ≡ true
  room = le-leb longest (length out) (omega arith)

  counts_are : ks ≡ length (text s) ∷ []
  unfolding list_number
  counts_are = rw room at e

  whole : out' ≡ text s ++ drop (0 + length (text s)) out
  unfolding list_number list_result
  whole = (rw room at w) ∙ sets-eq (text s) out 0 (omega (arith, none_longer s))

  pub text_given : ks ≡ [] → ⊥
  text_given z = omega (arith, ap length z, ap length counts_are)

  pub text-back : (n : ℕ) → ks ≡ n ∷ [] → (n ≡ length (text s)) × (take n out' ≡ text s) × ((n ≤ length out') × (n ≡ length (take n out')))
  text-back n q =
      let count : n ≡ length (text s) = ap (λ (l : List ℕ). get_or l 0 0) (sym q ∙ counts_are) in
      let first : take n out' ≡ text s = ap (take n) whole ∙ take_at (text s) (drop (0 + length (text s)) out) n (sym count) in (
        count,
        first,
        (omega (arith, count, ap length whole, length-append (text s) (drop (0 + length (text s)) out)), count ∙ sym (ap length first)),
      )
