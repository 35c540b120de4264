-- Appends one by one. Assumes nothing.
use mathlib.Core.Path.{◌≡◌, refl, sym, ap, ap₂, ◌∙◌}
use mathlib.Core.List.{List, [], ◌∷◌, ◌++◌}
use Prim.Native.Nat.{ℕ, zero, suc}
use Rattle.line.specs.Refusal.{accepted}
use Rattle.store.specs.Layout.{Event}
use Rattle.track.specs.Calls.{call_number, call_result, after, taken}
use Rattle.track.specs.Points.{point_events, points_number, points_result}
use Rattle.track.specs.CallLists.{Call, single, many, leaves, taken_of, singles_of, singles, OneByOne}
use Rattle.track.proofs.Runs.{all_taken}

after_append : (s : List ℕ) (es fs : List Event) → after s (es ++ fs) ≡ after (after s es) fs
after_append s [] fs = refl
after_append s (e ∷ es) fs = after_append (call_result s e) es fs

kept_append : (n : ℕ) (e : Event) (xs ys : List Event) → accepted n (e ∷ (xs ++ ys)) (xs ++ ys) ≡ accepted n (e ∷ xs) xs ++ ys
kept_append zero e xs ys = refl
kept_append (suc n) e xs ys = refl

taken_append : (s : List ℕ) (es fs : List Event) → taken s (es ++ fs) ≡ taken s es ++ taken (after s es) fs
taken_append s [] fs = refl
taken_append s (e ∷ es) fs =
    let t : List ℕ = call_result s e in
    ap (λ (l : List Event). accepted (call_number s e) (e ∷ l) l) (taken_append t es fs)
    ∙ kept_append (call_number s e) e (taken t es) (taken (after t es) fs)

-- of one call
left_alike : (s : List ℕ) (c : Call) → leaves s c ≡ after s (singles_of s c)
unfolding points_result
left_alike s (single e) = refl
left_alike s (many zs) = go (points_number s zs)
  where
    go : (n : ℕ) → accepted n (after s (point_events zs)) s ≡ after s (accepted n (point_events zs) [])
    go zero = refl
    go (suc n) = refl

taken_alike : (s : List ℕ) (c : Call) → taken_of s c ≡ taken s (singles_of s c)
taken_alike s (single e) = refl
taken_alike s (many zs) = go (points_number s zs) refl
  where
    go : (n : ℕ) → points_number s zs ≡ n → accepted n (point_events zs) [] ≡ taken s (accepted n (point_events zs) [])
    go zero e = sym (all_taken s zs e)
    go (suc n) e = refl

-- of a list
pub one_by_one : OneByOne
one_by_one s [] = (refl, refl)
one_by_one s (c ∷ cs) =
    let t : List ℕ = leaves s c in
    let k = one_by_one t cs in
    let l : t ≡ after s (singles_of s c) = left_alike s c in (
      k.0 ∙ ap (λ (u : List ℕ). after u (singles t cs)) l ∙ sym (after_append s (singles_of s c) (singles t cs)),
      ap₂ ◌++◌ (taken_alike s c) (k.1 ∙ ap (λ (u : List ℕ). taken u (singles t cs)) l) ∙ sym (taken_append s (singles_of s c) (singles t cs)),
    )
