use Prim.Native.Nat.{ℕ, ◌-◌, ◌^◌, ◌%◌, ◌<◌}
use mathlib.Core.Path.{sym, ◌∙◌, ap, subst⁻¹}
use native.Mathlib.Nat.{mod-lt, mod-le}
use lib.Pow.{pow_pos}
use native.Mathlib.Omega.{arith}
use Rattle.line.proofs.ByMode.{width_range}
use Rattle.scrambler.proofs.RegisterLaws.{mod_large}
use Rattle.scrambler.proofs.GroupLaws.{small_column, width-column}
use Rattle.scrambler.proofs.settled_of.Goals as goal

pub low_bits-requires : goal.low_bits-requires
low_bits-requires c = small_column c.args.mode _ c.column_of.ensures

pub without_first-requires : goal.without_first-requires
without_first-requires c =
    let k = width-column c.args.mode _ c.column_of.ensures in
    (omega arith, omega (arith, width_range c.args.mode), subst⁻¹ (λ (x : ℕ). x < 2 ^ c.width_of-w.result) (c.low_bits.ensures.value ∙ ap (λ (x : ℕ). c.args.plain % 2 ^ x) (k ∙ sym c.width_of-w.ensures)) (mod-lt c.args.plain (pow_pos c.width_of-w.result)))

pub returns : goal.returns
returns c =
    let left : ℕ = c.width_of-w.result - c.unsettled_bits-u.result in
    let k = width-column c.args.mode _ c.column_of.ensures ∙ sym c.width_of-w.ensures in record { value = c.without_first.ensures ∙ ap (λ (n : ℕ). n % 2 ^ left) (c.low_bits.ensures.value ∙ ap (λ (n : ℕ). c.args.plain % 2 ^ n) k) ∙ mod_large left c.width_of-w.result c.args.plain (omega arith) ∙ ap (λ (n : ℕ). c.args.plain % 2 ^ n) (omega arith); upper_bound = (let l = mod-le c.low_bits.result (2 ^ left) in omega arith) }
