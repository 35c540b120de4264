use Prim.Native.Nat.{ℕ, ◌+◌, ◌*◌, ◌-◌, ◌^◌, ◌/◌, ◌%◌}
use mathlib.Core.Path.{◌∙◌, ap}
use mathlib.Core.Bool.{cond}
use native.Mathlib.Nat.{div-le_self}
use native.Mathlib.Omega.{arith}
use lib.Bits.{bit_or}
use lib.Dec.{eqb}
use Rattle.scrambler.proofs.GuardLaws.{place_small, place-fits, zeros_small, over_law}
use Rattle.scrambler.proofs.guard_over.Goals as goal

pub overflow_cast-place-3 : goal.overflow_cast-place-3
overflow_cast-place-3 c = place-fits _ _ (omega arith)

pub inverted_bit-inverted-requires : goal.inverted_bit-inverted-requires
inverted_bit-inverted-requires c = place_small _ _ (omega arith)

pub count_after-requires : goal.count_after-requires
count_after-requires c =
    zeros_small c.args.left _ _ _ c.requires.0 (place_small _ _ (omega arith)) c.requires.2 c.inverted_bit-inverted.ensures.upper_bound

pub returns : goal.returns
returns c =
    let o = over_law c.args.left c.args.count c.args.d c.requires.0 c.requires.1 c.requires.2 in
    let p = div-le_self 4 (2 ^ (36 - (c.args.count + c.args.left))) in record { inverted_value = (c.inverted_bit-inverted.ensures.value ∙ o.0, c.count_after.ensures ∙ ap (λ (x : ℕ). cond (eqb (bit_or c.args.d x) 0) (c.args.count + c.args.left) (4624 / 2 ^ (2 * bit_or c.args.d x) % 4)) c.inverted_bit-inverted.ensures.value ∙ o.1); inverted_bound = omega arith }
