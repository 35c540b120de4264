use Prim.Native.Nat.{ℕ, ◌-◌, ◌^◌, ◌%◌, ◌<◌}
use mathlib.Core.Path.{sym, ◌∙◌, ap, subst⁻¹}
use native.Mathlib.Nat.{mod-lt}
use lib.Pow.{pow_pos}
use native.Mathlib.Omega.{arith}
use Rattle.line.proofs.ByMode.{width_range, guarded-width}
use Rattle.scrambler.proofs.GroupLaws.{small_column, width-column, guard_law}
use Rattle.scrambler.proofs.guard.Goals as goal

pub differing-requires : goal.differing-requires
differing-requires c = omega (arith, width_range c.args.mode)

pub low_bits-d-requires : goal.low_bits-d-requires
low_bits-d-requires c = small_column c.args.mode _ c.column_of.ensures

pub without_first-requires : goal.without_first-requires
without_first-requires c =
    let k = width-column c.args.mode _ c.column_of.ensures in
    (omega arith, omega (arith, width_range c.args.mode), subst⁻¹ (λ (x : ℕ). x < 2 ^ c.width_of-w.result) (c.low_bits-d.ensures.value ∙ ap (λ (x : ℕ). c.differing.result % 2 ^ x) (k ∙ sym c.width_of-w.ensures)) (mod-lt c.differing.result (pow_pos c.width_of-w.result)))

pub guard_over-requires : goal.guard_over-requires
guard_over-requires c =
    (omega (arith, guarded-width c.args.mode c.requires), c.first_count.ensures.upper_bound, subst⁻¹ (λ (x : ℕ). x < 2 ^ (c.width_of-w.result - c.unsettled_bits-u.result)) c.without_first.ensures (mod-lt c.low_bits-d.result (pow_pos (c.width_of-w.result - c.unsettled_bits-u.result))))

pub returns : goal.returns
returns c =
    let k = width-column c.args.mode _ c.column_of.ensures ∙ sym c.width_of-w.ensures in
    let d = c.without_first.ensures ∙ ap (λ (x : ℕ). x % 2 ^ (c.width_of-w.result - c.unsettled_bits-u.result)) (c.low_bits-d.ensures.value ∙ ap (λ (x : ℕ). c.differing.result % 2 ^ x) k) in
    record { inverted_value = guard_law c.args.mode _ c.args.held c.args.count c.args.n c.args.y _ _ _ _ _ _ c.requires c.width_of-w.ensures c.differing.ensures c.unsettled_bits-u.ensures d c.first_count.ensures.value c.guard_over.ensures.inverted_value; inverted_bound = c.guard_over.ensures.inverted_bound }
