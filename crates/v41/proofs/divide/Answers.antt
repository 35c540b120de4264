use mathlib.Core.Path.{◌∙◌, subst⁻¹}
use mathlib.Core.List.{List}
use Prim.Native.Nat.{ℕ}
use lib.Dec.{T}
use native.Mathlib.Omega.{arith}
use Rattle.line.specs.Table.{every}
use Rattle.line.proofs.TableLaws.{every_drop}
use Rattle.scrambler.specs.Bits.{is_bit}
use Rattle.v41.proofs.Loops.{eight_bits, eights_more, eights_go}
use Rattle.v41.proofs.divide.Goals as goal

pub loop-eight-preserved : goal.loop-eight-preserved
loop-eight-preserved c =
    let front = c.in-Some.ensures.steps.1.0 in
    let long = c.in-Some.ensures.steps.1.1 in (
      c.shift_eight-r.ensures.1,
      omega arith,
      eights_more _ _ _ _ c.loop-eight.invariant.2 front (long ∙ c.loop-eight.invariant.1),
      eights_go _ _ _ _ _ _ _ (eight_bits _ _ _ _ c.requires c.loop-eight.invariant.2 front) front (long ∙ c.loop-eight.invariant.1) c.number_of.ensures.0 c.shift_eight-r.ensures.0 c.loop-eight.invariant.3,
    )

pub divide_bits-requires : goal.divide_bits-requires
divide_bits-requires c = (c.loop-eight.invariant.0, subst⁻¹ (λ (s : List ℕ). T (every is_bit s)) (c.remainder-rest.ensures ∙ c.chunks_exact-eights.ensures.remainder) (every_drop is_bit _ _ c.requires))
