use Prim.Native.Nat.{ℕ}
use mathlib.Core.Path.{ap, ◌∙◌}
use native.Mathlib.Omega.{arith}
use Rattle.line.specs.Mode.{capacity}
use Rattle.line.proofs.ByMode.{column-low, mode_1, mode_2, mode_3, mode_4, not-guarded}
use Rattle.scrambler.specs.Register.{register}
use Rattle.scrambler.specs.Group.{descrambled}
use Rattle.scrambler.proofs.GroupLaws.{small_column, column_law}
use borrow.Author.Rules.{rules}
use Rattle.scrambler.proofs.descramble_next.Goals as goal

pub returns-then-c-le1 : goal.returns-then-c-le1
returns-then-c-le1 c =
    let l = small_column c.args.mode c.column_of-c.result c.column_of-c.ensures in
    column_law 1 c.column_of-c.result c.args.role c.args.n 0 c.args.line _ c.next_bits.ensures (not-guarded 1 (omega arith)) (not-guarded c.column_of-c.result l) (λ x y z w. mode_1 x y z w c.column_of-c.result c.column_of-c.result (column-low c.column_of-c.result l) c.if-c-le1.true)
    ∙ ap (λ (j : ℕ). descrambled j c.args.role (register c.args.n (capacity j) 0) c.args.line) c.column_of-c.ensures

pub returns-then-c-eq2 : goal.returns-then-c-eq2
returns-then-c-eq2 c =
    let l = small_column c.args.mode c.column_of-c.result c.column_of-c.ensures in
    column_law 2 c.column_of-c.result c.args.role c.args.n 0 c.args.line _ c.next_bits-then-c-eq2.ensures (not-guarded 2 (omega arith)) (not-guarded c.column_of-c.result l) (λ x y z w. mode_2 x y z w c.column_of-c.result c.column_of-c.result (column-low c.column_of-c.result l) c.if-c-eq2.true)
    ∙ ap (λ (j : ℕ). descrambled j c.args.role (register c.args.n (capacity j) 0) c.args.line) c.column_of-c.ensures

pub returns-then-c-eq3 : goal.returns-then-c-eq3
returns-then-c-eq3 c =
    let l = small_column c.args.mode c.column_of-c.result c.column_of-c.ensures in
    column_law 3 c.column_of-c.result c.args.role c.args.n 0 c.args.line _ c.next_bits-then-c-eq3.ensures (not-guarded 3 (omega arith)) (not-guarded c.column_of-c.result l) (λ x y z w. mode_3 x y z w c.column_of-c.result c.column_of-c.result (column-low c.column_of-c.result l) c.if-c-eq3.true)
    ∙ ap (λ (j : ℕ). descrambled j c.args.role (register c.args.n (capacity j) 0) c.args.line) c.column_of-c.ensures

pub returns-else-c-eq3 : goal.returns-else-c-eq3
returns-else-c-eq3 c =
    let l = small_column c.args.mode c.column_of-c.result c.column_of-c.ensures in
    column_law 4 c.column_of-c.result c.args.role c.args.n 0 c.args.line _ c.next_bits-else-c-eq3.ensures (not-guarded 4 (omega arith)) (not-guarded c.column_of-c.result l) (λ x y z w. mode_4 x y z w c.column_of-c.result c.column_of-c.result (column-low c.column_of-c.result l) (search rules) c.if-c-eq2.false c.if-c-eq3.false)
    ∙ ap (λ (j : ℕ). descrambled j c.args.role (register c.args.n (capacity j) 0) c.args.line) c.column_of-c.ensures
