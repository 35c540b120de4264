-- A part of the lent bytes that is written as a whole. Assumes nothing.
use Prim.Native.Nat.{ℕ, ◌+◌, ◌-◌, ◌≤◌}
use mathlib.Core.Path.{◌≡◌, sym, ap, ◌∙◌}
use mathlib.Core.List.{List, ◌++◌, append_assoc}
use native.Mathlib.Omega.{arith}
use borrow.Rule.Slice.PartMut.{put_mid, Post-is}
use lib.ListN.{length, take, drop}
use lib.Seq.{sets, sets-eq}

-- the part from a to e comes back as vs: vs is written from a on
pub part_written : (a e : ℕ) (l vs : List ℕ) → a ≤ e → e ≤ length l → length vs ≡ e - a → put_mid a (e - a) l vs ≡ sets l a vs
part_written a e l vs h g q =
    ap (λ (r : List ℕ). take a l ++ (vs ++ r)) (Post-is a e l h ∙ ap (λ (n : ℕ). drop n l) (let i : e ≡ a + length vs = omega arith in i))
    ∙ sym (append_assoc (take a l) vs (drop (a + length vs) l)) ∙ sym (sets-eq vs l a (omega arith))
