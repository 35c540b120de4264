use mathlib.Core.Path.{sym, ◌∙◌}
use mir.Facts.{to_z-of_z}
use borrow.Author.Rules.{rules}
use Rattle.deciding.specs.Sizes.{ring_of}
use Rattle.deciding.proofs.RingLaws.{unpacked, first_state, same_state}
use Rattle.deciding.proofs.state_of.Goals as goal

pub returns-then-c-le1 : goal.returns-then-c-le1
unfolding ring_of
returns-then-c-le1 c =
    unpacked 1 c.args.re c.args.im _ _ _ c.packed_at.ensures tt (rw (to_z-of_z c.ranges.re, to_z-of_z c.ranges.im) at c.ring_index.ensures.value, c.ring_index.ensures.upper_bound)
    ∙ first_state c.args.c c.args.re c.args.im c.if-c-le1.true

pub returns-then-c-eq2 : goal.returns-then-c-eq2
unfolding ring_of
returns-then-c-eq2 c =
    unpacked 2 c.args.re c.args.im _ _ _ c.packed_at-then-c-eq2.ensures tt (rw (to_z-of_z c.ranges.re, to_z-of_z c.ranges.im) at c.ring_index-then-c-eq2.ensures.value, c.ring_index-then-c-eq2.ensures.upper_bound)
    ∙ same_state 2 c.args.c c.args.re c.args.im (sym c.if-c-eq2.true)

pub returns-then-c-eq3 : goal.returns-then-c-eq3
unfolding ring_of
returns-then-c-eq3 c =
    unpacked 3 c.args.re c.args.im _ _ _ c.packed_at-then-c-eq3.ensures tt (rw (to_z-of_z c.ranges.re, to_z-of_z c.ranges.im) at c.ring_index-then-c-eq3.ensures.value, c.ring_index-then-c-eq3.ensures.upper_bound)
    ∙ same_state 3 c.args.c c.args.re c.args.im (sym c.if-c-eq3.true)

pub returns-else-c-eq3 : goal.returns-else-c-eq3
unfolding ring_of
returns-else-c-eq3 c =
    unpacked 4 c.args.re c.args.im _ _ _ c.packed_at-else-c-eq3.ensures tt (rw (to_z-of_z c.ranges.re, to_z-of_z c.ranges.im) at c.ring_index-else-c-eq3.ensures.value, c.ring_index-else-c-eq3.ensures.upper_bound)
    ∙ same_state 4 c.args.c c.args.re c.args.im (search rules)
