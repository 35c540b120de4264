-- Lines that stand alone. Assumes nothing.
use mathlib.Core.Path.{◌≡◌, refl, sym, ap, ◌∙◌}
use mathlib.Core.List.{List, [], ◌∷◌, ◌++◌, append_assoc}
use Prim.Native.Nat.{ℕ, zero, suc, ◌+◌, ◌-◌, ◌≤◌, ◌<◌}
use native.Mathlib.Omega.{arith}
use native.Mathlib.Nat.{zero-add}
use borrow.Author.Tests.{leb-true}
use mathlib.Core.Bool.{Bool, true, false, ◌&&◌}
use lib.Dec.{leb}
use lib.ListN.{length, get_or, length-append}
use Rattle.std.specs.Prelude.{Ok, Err}
use Rattle.line.specs.declared.refusal.Refusal.{Refusal}
use Rattle.line.specs.Refusal.{number, need, accepted}
use Rattle.line.proofs.RefusalLaws.{some_number, need-zero, left_done, left_kept}
use Rattle.store.specs.Store.{events, refusal}
use Rattle.summing.specs.declared.EventSums.{EventSums}
use Rattle.summing.specs.Sums.{sums_of, Small}
use Rattle.line.proofs.Tests.{and_split}
use Rattle.listing.specs.Text.{decimal, refused_by, line_end, sum_line, refused_line, text}
use Rattle.listing.specs.Agreement.{lines_in}
use Rattle.listing.specs.LastLine.{last_line, longest_line, line_number, small_sums, sum_number, Writes, EachFits, LastInText}
use Rattle.listing.specs.Wrote.{Wrote}
use Rattle.listing.proofs.Digits.{decimal_long}
use Rattle.listing.proofs.Lengths.{sums_long}
use Rattle.listing.proofs.Texts.{refused_text}
use Rattle.listing.proofs.Agreements.{lines_agree, refused_cut}

-- ---- the call
module _ (n : ℕ) (t out : List ℕ) where
  pub writes_none : (f : Refusal) → number f ≡ n → Writes n t out out (Err f)
  writes_none f e =
      let k : n ≡ 0 → ⊥ = λ z. some_number f (e ∙ z) in
      record { number = e; counts = left_kept n _ _ k; bytes = left_kept n _ _ k }

  pub writes_line : {out' : List ℕ} {k : ℕ} → n ≡ 0 → Wrote out 0 t out' k → Writes n t out out' (Ok k)
  writes_line {out'} {k} z w =
      record {
        number = sym z;
        counts = ap (λ (m : ℕ). m ∷ []) (w.behind ∙ zero-add (length t)) ∙ left_done n _ _ z;
        bytes = w.written ∙ left_done n _ _ z;
      }

pub line_need : (room : ℕ) → need (leb longest_line room) 7 0 ≡ line_number room
unfolding line_number
line_need room = refl

-- ---- sums
module _ (v : EventSums) (room : ℕ) where
  abbrev within : Bool
  within = (leb v.points 4294967295 && leb v.lost 4294967295) && leb v.gaps 4294967295

  pub sum_large : (f : Refusal) → number f ≡ need within 4 0 → number f ≡ sum_number v room
  unfolding sum_number small_sums
  sum_large f e = go within e
    where
      go : (b : Bool) → number f ≡ need b 4 0 → number f ≡ need b 4 (line_number room)
      go true q = absurd (some_number f q)
      go false q = q

  pub sum_small : 0 ≡ need within 4 0 → line_number room ≡ sum_number v room
  unfolding sum_number small_sums
  sum_small e = rw (need-zero within 4 0 (omega arith) (sym e)).0

  pub sum_fits : 0 ≡ need within 4 0 → Small v
  sum_fits e =
      let a = and_split (leb v.points 4294967295 && leb v.lost 4294967295) (leb v.gaps 4294967295) (need-zero within 4 0 (omega arith) (sym e)).0 in
      let b = and_split (leb v.points 4294967295) (leb v.lost 4294967295) a.0 in
      (leb-true _ _ b.0, leb-true _ _ b.1, leb-true _ _ a.1)

-- ---- the last line of a listing
pub last_sums : (s : List ℕ) (v : EventSums) → refusal s ≡ 0 → v ≡ sums_of (events s) → sum_line v ≡ last_line s
unfolding last_line
last_sums s v acc e = ap sum_line e ∙ left_done (refusal s) _ _ acc

pub last_refused : (s : List ℕ) (k : ℕ) → k ≡ refusal s → (k ≡ 0 → ⊥) → refused_line k ≡ last_line s
unfolding last_line
last_refused s k e nz = ap refused_line e ∙ left_kept (refusal s) _ _ (λ z. nz (e ∙ z))

spelt : (n : ℕ) → refused_line n ≡ refused_by ++ (decimal n ++ line_end)
unfolding refused_line
spelt n = refl

pub last_in_text : LastInText
last_in_text s b = go (refusal s) refl
  where
    of_refused : (n : ℕ) → refusal s ≡ suc n → get_or (lines_in (text s)) (length (lines_in (text s)) - 1) [] ++ line_end ≡ last_line s
    of_refused n e =
        let t : lines_in (text s) ≡ (refused_by ++ decimal (suc n)) ∷ [] = ap lines_in (sym (refused_text s (suc n) (sym e) (λ z. omega arith))) ∙ refused_cut (suc n) in
        rw t (append_assoc refused_by (decimal (suc n)) line_end ∙ sym (spelt (suc n)) ∙ last_refused s (suc n) (sym e) (λ z. omega arith))

    of_accepted : refusal s ≡ 0 → get_or (lines_in (text s)) (length (lines_in (text s)) - 1) [] ++ line_end ≡ last_line s
    of_accepted e =
        let a = lines_agree s b e in
        ap (λ (k : ℕ). get_or (lines_in (text s)) k [] ++ line_end) (let q : length (lines_in (text s)) - 1 ≡ 1 + length (events s) = omega (arith, a.each_a_line) in q)
        ∙ a.sums_last ∙ last_sums s (sums_of (events s)) e refl

    go : (n : ℕ) → refusal s ≡ n → get_or (lines_in (text s)) (length (lines_in (text s)) - 1) [] ++ line_end ≡ last_line s
    go zero e = of_accepted e
    go (suc n) e = of_refused n e

-- ---- the room
sums_fit : (v : EventSums) → length (sum_line v) ≤ longest_line
sums_fit v = omega (arith, sums_long v)

refused_fits : (n : ℕ) → length (refused_line n) ≤ longest_line
unfolding refused_line
refused_fits n = simp length-append (omega (arith, decimal_long n))

pub each_fits : EachFits
unfolding last_line
each_fits = record { last_fits = λ s. go (refusal s) s; sums_fit = sums_fit; refused_fits = refused_fits }
  where
    go : (n : ℕ) (s : List ℕ) → length (accepted n (sum_line (sums_of (events s))) (refused_line n)) ≤ longest_line
    go zero s = sums_fit (sums_of (events s))
    go (suc n) s = refused_fits (suc n)
