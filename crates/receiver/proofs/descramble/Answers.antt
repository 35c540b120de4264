use mathlib.Core.Path.{sym, ◌∙◌}
use Rattle.scrambler.proofs.GroupLaws.{next_law, counted_law}
use Rattle.receiver.proofs.OutcomeLaws.{full_register, filling_register}
use Rattle.receiver.proofs.descramble.Goals as goal

pub returns-then-held-capacity_of : goal.returns-then-held-capacity_of
returns-then-held-capacity_of c =
    full_register _ _ _ _ _ _ c.capacity_of.ensures c.if-held-capacity_of.true
    (counted_law c.args.mode c.args.role c.args.h.bits c.args.h.count.0 c.args.line _ (sym c.has_guard.ensures ∙ c.if-has_guard.true) (c.by_fields.ensures ∙ c.descramble_counted.ensures))

pub returns-then-has_guard : goal.returns-then-has_guard
returns-then-has_guard c = c.by_fields-then-has_guard.ensures ∙ c.descramble_group.ensures

pub returns-then-held-capacity_of-2 : goal.returns-then-held-capacity_of-2
returns-then-held-capacity_of-2 c =
    full_register _ _ _ _ _ _ c.capacity_of-2.ensures c.if-held-capacity_of-2.true
    (next_law c.args.mode c.args.role c.args.h.bits c.args.h.count.0 c.args.line _ c.descramble_next-d.ensures (sym c.has_guard.ensures ∙ c.if-has_guard.false))

pub returns : goal.returns
returns c =
    filling_register c.args.mode c.args.role c.args.line c.args.h _ _ _ _ (sym c.has_guard.ensures ∙ c.if-has_guard.false) c.descramble_next-d.ensures c.settled_of.ensures.value c.unsettled_of.ensures.value c.held_after.ensures
