-- Points written one after the other. Assumes nothing.
use Prim.Native.Nat.{ℕ, suc, ◌+◌, ◌-◌, ◌/◌, ◌<◌, ◌≤◌}
use mathlib.Core.Path.{◌≡◌, refl, sym, ap, ◌∙◌}
use mathlib.Core.List.{List, ◌++◌}
use native.Mathlib.Omega.{arith}
use borrow.Rule.Slice.PartMut.{put_mid, mid_len}
use lib.Dec.{T, leb→le}
use lib.ListN.{length, get_or, take, drop, drop_of_length-le}
use lib.Seq.{drop-cons, sets, length-sets}
use Rattle.line.specs.Table.{every}
use Rattle.line.proofs.Sets.{sets_then}
use Rattle.line.proofs.TableLaws.{every-placed}
use Rattle.scrambler.specs.Bits.{bits}
use Rattle.scrambler.proofs.BitLaws.{length-bits}
use Rattle.bits.proofs.Parts.{part_written}
use Rattle.settled.specs.Points.{at_most, point_bits, points_bits}
use Rattle.settled.proofs.RunLaws.{points-count}

-- the points before the k-th are written, up to `at`
pub record Put (w : ℕ) (plain out₀ out : List ℕ) (at k : ℕ) : Type 0 where
  pub same : length out ≡ length out₀
  pub room : at + length (points_bits w (drop k plain)) ≤ length out
  pub rest : sets out at (points_bits w (drop k plain)) ≡ sets out₀ 0 (points_bits w plain)

pub put_start : (w : ℕ) (plain out : List ℕ) → length (points_bits w plain) ≤ length out → Put w plain out out 0 0
put_start w plain out h = record { same = refl; room = omega arith; rest = refl }

module _ (w : ℕ) (plain out₀ out : List ℕ) (at k : ℕ) (i : Put w plain out₀ out at k) where
  module _ (h : k < length plain) where
    abbrev p : ℕ
    p = get_or plain k 0

    pub point_most : T (every (at_most w) plain) → p / 16 ≤ w
    point_most t = leb→le _ _ (every-placed (at_most w) 0 k plain h t)

    next-bits : points_bits w (drop k plain) ≡ point_bits w p ++ points_bits w (drop (suc k) plain)
    next-bits = ap (points_bits w) (drop-cons plain k 0 h)

    next-length : length (points_bits w (drop k plain)) ≡ (w - p / 16) + length (points_bits w (drop (suc k) plain))
    next-length = ap length next-bits ∙ points-count w p (drop (suc k) plain)

    pub point_fits : at + (w - p / 16) ≤ length out
    point_fits = let l = next-length in let r = i.room in omega arith

    pub put_next : (e : ℕ) (xs : List ℕ) → e ≡ at + (w - p / 16) → xs ≡ bits (length (take (e - at) (drop at out))) p → Put w plain out₀ (put_mid at (e - at) out xs) e (k + 1)
    put_next e xs q x =
        let f = point_fits in
        let l = next-length in
        let r = i.room in
        let n : suc k ≡ k + 1 = omega arith in
        let y : xs ≡ point_bits w p = x ∙ ap (λ (j : ℕ). bits j p) (mid_len at e out (omega arith) ∙ (let z : e - at ≡ w - p / 16 = omega arith in z)) in
        let lx : length xs ≡ e - at = ap length y ∙ length-bits (w - p / 16) p ∙ (let z : w - p / 16 ≡ e - at = omega arith in z) in
        let g : put_mid at (e - at) out xs ≡ sets out at xs = part_written at e out xs (omega arith) (omega arith) lx in
        let m : length (put_mid at (e - at) out xs) ≡ length out = ap length g ∙ length-sets out at xs in
        record {
          same = m ∙ i.same;
          room = rw (← n) (omega arith);
          rest = rw (← n)
              (ap (λ (o : List ℕ). sets o e (points_bits w (drop (suc k) plain))) g ∙ sets_then xs (points_bits w (drop (suc k) plain)) out at e (omega arith)
              ∙ ap (sets out at) (ap (λ (o : List ℕ). o ++ points_bits w (drop (suc k) plain)) y ∙ sym next-bits) ∙ i.rest);
        }

  pub put_end : length plain ≤ k → out ≡ sets out₀ 0 (points_bits w plain)
  put_end h = sym (ap (λ (l : List ℕ). sets out at (points_bits w l)) (drop_of_length-le plain h)) ∙ i.rest
