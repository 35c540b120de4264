-- Records: a write into record i is a write into that record's bytes, and leaves the others alone. Assumes nothing.
use mathlib.Core.Path.{◌≡◌, refl, sym, ap, ◌∙◌}
use mathlib.Core.Logic.{◌≢◌, ⊎_elim, inl}
use mathlib.Core.List.{List}
use Prim.Native.Nat.{ℕ, zero, suc, ◌+◌, ◌*◌, ◌-◌, ◌≤◌, ◌<◌}
use native.Mathlib.Omega.{arith}
use lib.ListN.{length, get_or, take, drop, length-drop}
use lib.Seq.{sets, length-sets, length-take-le, get_or-take, get_or-drop}
use Rattle.octets.specs.Number.{u16, u32, le16, le32}
use Rattle.line.proofs.Tests.{lt_or_ge}
use Rattle.line.proofs.Sets.{take-sets-le, take_sets_in, drop-sets-le, drop_sets_in, get_d_sets_out}
use Rattle.octets.proofs.Numbers.{u16-drop, u16_out, u16_in, u32_in}
use Rattle.store.specs.Layout.{rec, write, link_in, next}
use Rattle.store.specs.Store.{total, head_ok, has_mark}

pub rec-write-same : (s : List ℕ) (i o : ℕ) (vs : List ℕ) → o + length vs ≤ 32 → rec (write s i o vs) i ≡ sets (rec s i) o vs
rec-write-same s i o vs h = ap (take 32) (drop_sets_in vs s (32 * i) o) ∙ take_sets_in vs (drop (32 * i) s) 32 o h

pub rec_write_other : (s : List ℕ) (i k o : ℕ) (vs : List ℕ) → o + length vs ≤ 32 → k ≢ i → rec (write s i o vs) k ≡ rec s k
rec_write_other s i k o vs h ne = ⊎_elim below above (lt_or_ge k i)
  where
    below : k < i → rec (write s i o vs) k ≡ rec s k
    below lt =
        ap (λ (a : ℕ). take 32 (drop (32 * k) (sets s a vs))) (omega arith)
        ∙ ap (take 32) (drop_sets_in vs s (32 * k) (32 * (i - k) + o))
        ∙ take-sets-le vs (drop (32 * k) s) 32 (32 * (i - k) + o) (omega arith)

    above : i ≤ k → rec (write s i o vs) k ≡ rec s k
    above le = ap (take 32) (drop-sets-le vs s (32 * k) (32 * i + o) (omega arith))

pub rec-length : (s : List ℕ) (i : ℕ) → 32 * i + 32 ≤ length s → length (rec s i) ≡ 32
rec-length s i h = length-take-le 32 (drop (32 * i) s) (simp length-drop (omega arith))

pub length-write : (s : List ℕ) (i o : ℕ) (vs : List ℕ) → length (write s i o vs) ≡ length s
length-write s i o vs = length-sets s (32 * i + o) vs

pub rec-u16 : (s : List ℕ) (i o : ℕ) → o + 1 < 32 → u16 (rec s i) o ≡ u16 s (32 * i + o)
rec-u16 s i o h =
    omega (arith, get_or-take 32 (drop (32 * i) s) o 0 (omega arith), get_or-take 32 (drop (32 * i) s) (o + 1) 0 h, u16-drop s (32 * i) o)

pub rec_byte : (s : List ℕ) (i o : ℕ) → o < 32 → get_or (rec s i) o 0 ≡ get_or s (32 * i + o) 0
rec_byte s i o h = get_or-take 32 (drop (32 * i) s) o 0 h ∙ get_or-drop (32 * i) s o 0

-- ---- links
pub link_small : (i : ℕ) → link_in i ≤ 6
link_small zero = omega arith
link_small (suc i) = omega arith

pub link_first : (i : ℕ) → i ≡ 0 → link_in i ≡ 6
link_first i e = ap link_in e

pub link_later : (i : ℕ) → (i ≡ 0 → ⊥) → link_in i ≡ 0
link_later zero h = absurd (h refl)
link_later (suc i) h = refl

pub next-at : (s : List ℕ) (i : ℕ) → next s i ≡ u16 s (32 * i + link_in i)
unfolding next
next-at s i = rec-u16 s i (link_in i) (omega (arith, link_small i))

-- the links, as code that knows which record it is at reads them
pub next-first : (s : List ℕ) → u16 s 6 ≡ next s 0
next-first s = sym (next-at s 0)

pub next_later : (s : List ℕ) (i : ℕ) → (i ≡ 0 → ⊥) → u16 s (32 * i) ≡ next s i
next_later s i nz = ap (u16 s) (let e : 32 * i ≡ 32 * i + link_in i = omega (arith, link_later i nz) in e) ∙ sym (next-at s i)

pub next_other : (s : List ℕ) (i k o : ℕ) (vs : List ℕ) → o + length vs ≤ 32 → k ≢ i → next (write s i o vs) k ≡ next s k
unfolding next
next_other s i k o vs h ne = ap (λ (r : List ℕ). u16 r (link_in k)) (rec_write_other s i k o vs h ne)

pub next_link : (s : List ℕ) (i v : ℕ) → v < 65536 → 32 * i + 32 ≤ length s → next (write s i (link_in i) (le16 v)) i ≡ v
unfolding next
next_link s i v b h =
    let k : link_in i ≤ 6 = link_small i in
    let l : length (rec s i) ≡ 32 = rec-length s i h in
    ap (λ (r : List ℕ). u16 r (link_in i)) (rec-write-same s i (link_in i) (le16 v) (omega arith))
    ∙ u16_in (rec s i) (link_in i) v b (omega arith)

pub next-total : (s : List ℕ) (t k : ℕ) → next (write s 0 8 (le32 t)) k ≡ next s k
unfolding next
next-total s t zero = ap (λ (r : List ℕ). u16 r 6) (rec-write-same s 0 8 (le32 t) (omega arith)) ∙ u16_out (le32 t) (rec s 0) 8 6 (inl (omega arith))
next-total s t (suc k) = ap (λ (r : List ℕ). u16 r 0) (rec_write_other s 0 (suc k) 8 (le32 t) (omega arith) (omega arith))

-- ---- record 0
head_same : (r' r : List ℕ) → ((k : ℕ) → k < 6 → get_or r' k 0 ≡ get_or r k 0) → drop 12 r' ≡ drop 12 r → head_ok r' ≡ head_ok r
unfolding head_ok has_mark
head_same r' r g d =
    cc (g 0 (omega arith), g 1 (omega arith), g 2 (omega arith), g 3 (omega arith), g 4 (omega arith), g 5 (omega arith), d)

pub head_in : (s : List ℕ) (o : ℕ) (vs : List ℕ) → 6 ≤ o → o + length vs ≤ 12 → head_ok (rec (write s 0 o vs) 0) ≡ head_ok (rec s 0)
head_in s o vs h k =
    ap head_ok (rec-write-same s 0 o vs (omega arith))
    ∙ head_same (sets (rec s 0) o vs) (rec s 0) (λ j l. get_d_sets_out vs (rec s 0) o j 0 (inl (omega arith))) (drop-sets-le vs (rec s 0) 12 o k)

pub head_out : (s : List ℕ) (i o : ℕ) (vs : List ℕ) → o + length vs ≤ 32 → 0 ≢ i → head_ok (rec (write s i o vs) 0) ≡ head_ok (rec s 0)
head_out s i o vs h ne = ap head_ok (rec_write_other s i 0 o vs h ne)

pub head_link : (s : List ℕ) (i v : ℕ) → head_ok (rec (write s i (link_in i) (le16 v)) 0) ≡ head_ok (rec s 0)
head_link s zero v = head_in s 6 (le16 v) (omega arith) (omega arith)
head_link s (suc i) v = head_out s (suc i) 0 (le16 v) (omega arith) (omega arith)

pub total-write : (s : List ℕ) (t : ℕ) → t < 4294967296 → 32 ≤ length s → total (write s 0 8 (le32 t)) ≡ t
unfolding total
total-write s t b h =
    let l : length (rec s 0) ≡ 32 = rec-length s 0 (omega arith) in
    ap (λ (r : List ℕ). u32 r 8) (rec-write-same s 0 8 (le32 t) (omega arith)) ∙ u32_in (rec s 0) 8 t b (omega arith)

-- the total lies at byte 8
pub total-at : (s : List ℕ) → total s ≡ u32 s 8
unfolding total
total-at s = omega (arith, rec-u16 s 0 8 (omega arith), rec-u16 s 0 10 (omega arith))
