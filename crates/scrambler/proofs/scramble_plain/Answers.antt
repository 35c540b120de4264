use Prim.Native.Nat.{ℕ}
use mathlib.Core.Path.{ap, ◌∙◌}
use Rattle.line.proofs.ByMode.{not-guarded}
use Rattle.scrambler.specs.Group.{scrambled}
use Rattle.scrambler.proofs.GroupLaws.{small_column, plain_scramble_law}
use Rattle.scrambler.proofs.scramble_plain.Goals as goal

pub mixed-line-requires : goal.mixed-line-requires
mixed-line-requires c = small_column c.args.mode _ c.column_of-c.ensures

pub push_group-requires : goal.push_group-requires
push_group-requires c = small_column c.args.mode _ c.column_of-c.ensures

pub returns : goal.returns
returns c =
    plain_scramble_law _ c.args.role c.args.plain _ c.args.h _ (not-guarded _ (small_column c.args.mode _ c.column_of-c.ensures)) c.mixed-line.ensures.value c.push_group.ensures
    ∙ ap (λ (k : ℕ). scrambled k c.args.role c.args.h c.args.plain) c.column_of-c.ensures
