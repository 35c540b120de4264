use Prim.Native.Nat.{ℕ, ◌^◌, ◌%◌}
use mathlib.Core.Path.{ap, sym, ◌∙◌}
use Rattle.line.specs.Mode.{capacity}
use Rattle.line.proofs.ByMode.{kept_guarded}
use Rattle.scrambler.proofs.GroupLaws.{small_column, plain_column}
use Rattle.scrambler.proofs.keep_of.Goals as goal

pub returns-then-has_guard : goal.returns-then-has_guard
returns-then-has_guard c = ap (λ (k : ℕ). c.args.x % 2 ^ k) (kept_guarded _ (sym c.has_guard.ensures ∙ c.if-has_guard.true))

pub keep_bits-requires : goal.keep_bits-requires
keep_bits-requires c = small_column c.args.mode _ c.column_of.ensures

pub returns : goal.returns
returns c =
    c.keep_bits.ensures ∙ ap (λ (k : ℕ). c.args.x % 2 ^ capacity k) (c.column_of.ensures ∙ plain_column c.args.mode (sym c.has_guard.ensures ∙ c.if-has_guard.false))
