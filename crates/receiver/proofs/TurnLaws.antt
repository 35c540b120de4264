-- The line bits from the second point on are equal exactly when the states are turned by one whole number of steps. Assumes nothing.
use Prim.Native.Nat.{ℕ, zero, suc}
use mathlib.Core.Path.{◌≡◌, refl, sym, ◌∙◌, ap}
use mathlib.Core.List.{List, [], ◌∷◌, map}
use native.Mathlib.Omega.{arith}
use native.Mathlib.Nat.{mod-eq_of_lt}
use lib.Dec.{T}
use lib.ListN.{length}
use Rattle.line.specs.Table.{every}
use Rattle.line.specs.Mode.{is_mode, width, face, turns, is_state}
use Rattle.coding.specs.Code.{group, coded}
use Rattle.line.proofs.TableLaws.{and_left, and_right}
use Rattle.coding.specs.Laws.{OfPair}
use Rattle.coding.proofs.ModeLaws.{of_pair}
use Rattle.scrambler.specs.Bits.{bits, value}
use Rattle.scrambler.proofs.BitLaws.{value-bits}
use Rattle.receiver.specs.Receiver.{line_bits}
use Rattle.receiver.specs.Turn.{lines, lines_of, Turned}
use Rattle.line.proofs.StateLaws.{turns_state}

module _ (m : ℕ) (hm : T (is_mode m)) where
  pair : (x y : ℕ) → T (is_state m x) → T (is_state m y) → OfPair m x y
  pair x y hx hy = of_pair m x hm hx y hy

  group-turns : (k x y : ℕ) → T (is_state m x) → T (is_state m y) → group m (face m (turns m k x)) (turns m k y) ≡ group m (face m x) y
  group-turns zero x y hx hy = refl
  group-turns (suc k) x y hx hy =
      (pair (turns m k x) (turns m k y) (turns_state m hm k x hx) (turns_state m hm k y hy)).same ∙ group-turns k x y hx hy

  pub bits-group : (x y : ℕ) → T (is_state m x) → T (is_state m y) → value (line_bits m x y) ≡ group m (face m x) y
  bits-group x y hx hy = value-bits (width m) (group m (face m x) y) ∙ mod-eq_of_lt (pair x y hx hy).fits

  group-bits : (x y x' y' : ℕ) → T (is_state m x) → T (is_state m y) → T (is_state m x') → T (is_state m y')
      → line_bits m x y ≡ line_bits m x' y' → group m (face m x) y ≡ group m (face m x') y'
  group-bits x y x' y' hx hy hx' hy' e = sym (bits-group x y hx hy) ∙ ap value e ∙ bits-group x' y' hx' hy'

  -- one point further
  step-turn : (k x x' y y' : ℕ) → T (is_state m x) → T (is_state m x') → T (is_state m y) → T (is_state m y')
      → face m y ≡ face m (turns m k x) → line_bits m x x' ≡ line_bits m y y' → y' ≡ turns m k x'
  step-turn k x x' y y' hx hx' hy hy' f e =
      let tx = turns_state m hm k x hx in
      let tx' = turns_state m hm k x' hx' in
      let g : group m (face m (turns m k x)) y' ≡ group m (face m (turns m k x)) (turns m k x') =
      ap (λ (q : ℕ). group m q y') (sym f) ∙ sym (group-bits x x' y y' hx hx' hy hy' e) ∙ sym (group-turns k x x' hx hx') in
      sym (pair (turns m k x) y' tx hy').back ∙ ap (coded m (face m (turns m k x))) g ∙ (pair (turns m k x) (turns m k x') tx tx').back

  turn_step : (k x x' y : ℕ) → T (is_state m x) → T (is_state m x') → face m y ≡ face m (turns m k x) → line_bits m x x' ≡ line_bits m y (turns m k x')
  turn_step k x x' y hx hx' f =
      ap (bits (width m)) (sym (group-turns k x x' hx hx') ∙ ap (λ (q : ℕ). group m q (turns m k x')) (sym f))

  lines-turn : (k x y : ℕ) (xs ys : List ℕ) → T (is_state m x) → T (is_state m y) → T (every (is_state m) xs) → T (every (is_state m) ys)
      → length xs ≡ length ys → face m y ≡ face m (turns m k x) → lines m x xs ≡ lines m y ys → ys ≡ map (turns m k) xs
  lines-turn k x y [] [] hx hy hxs hys l f e = refl
  lines-turn k x y [] (y' ∷ ys) hx hy hxs hys l f e = absurd (omega arith)
  lines-turn k x y (x' ∷ xs) [] hx hy hxs hys l f e = absurd (omega arith)
  lines-turn k x y (x' ∷ xs) (y' ∷ ys) hx hy hxs hys l f e =
      let hx' = and_left (is_state m x') (every (is_state m) xs) hxs in
      let hy' = and_left (is_state m y') (every (is_state m) ys) hys in
      let e0 : line_bits m x x' ≡ line_bits m y y' = cc in
      let e1 : lines m x' xs ≡ lines m y' ys = cc in
      let s : y' ≡ turns m k x' = step-turn k x x' y y' hx hx' hy hy' f e0 in
      let t : ys ≡ map (turns m k) xs =
      lines-turn k x' y' xs ys hx' hy' (and_right (is_state m x') (every (is_state m) xs) hxs)
      (and_right (is_state m y') (every (is_state m) ys) hys) (omega arith) (ap (face m) s) e1 in
      cc

  turn_lines : (k x y : ℕ) (xs : List ℕ) → T (is_state m x) → T (every (is_state m) xs)
      → face m y ≡ face m (turns m k x) → lines m x xs ≡ lines m y (map (turns m k) xs)
  turn_lines k x y [] hx hxs f = refl
  turn_lines k x y (x' ∷ xs) hx hxs f =
      let hx' = and_left (is_state m x') (every (is_state m) xs) hxs in
      let s = turn_step k x x' y hx hx' f in
      let t = turn_lines k x' (turns m k x') xs hx' (and_right (is_state m x') (every (is_state m) xs) hxs) refl in
      cc

  pub lines→turned : (xs ys : List ℕ) → T (every (is_state m) xs) → T (every (is_state m) ys) → length xs ≡ length ys
      → lines_of m xs ≡ lines_of m ys → Turned m xs ys
  lines→turned [] [] hxs hys l e = (0, tt)
  lines→turned [] (y ∷ ys) hxs hys l e = absurd (omega arith)
  lines→turned (x ∷ xs) [] hxs hys l e = absurd (omega arith)
  lines→turned (x ∷ xs) (y ∷ ys) hxs hys l e =
      let hx = and_left (is_state m x) (every (is_state m) xs) hxs in
      let hy = and_left (is_state m y) (every (is_state m) ys) hys in
      let k : (k : ℕ) × (face m y ≡ face m (turns m k x)) = (pair x y hx hy).meets in (
        k.0,
        (
          k.1,
          lines-turn k.0 x y xs ys hx hy (and_right (is_state m x) (every (is_state m) xs) hxs)
              (and_right (is_state m y) (every (is_state m) ys) hys) (omega arith) k.1 e,
        ),
      )

  pub turned→lines : (xs ys : List ℕ) → T (every (is_state m) xs) → Turned m xs ys → lines_of m xs ≡ lines_of m ys
  turned→lines [] [] hxs t = refl
  turned→lines [] (y ∷ ys) hxs t = absurd t.1
  turned→lines (x ∷ xs) [] hxs t = absurd t.1
  turned→lines (x ∷ xs) (y ∷ ys) hxs t =
      let hx = and_left (is_state m x) (every (is_state m) xs) hxs in
      turn_lines t.0 x y xs hx (and_right (is_state m x) (every (is_state m) xs) hxs) t.1.0
      ∙ ap (lines m y) (sym t.1.1)
