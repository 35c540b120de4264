use mathlib.Core.Path.{◌∙◌}
use borrow.Author.Rules.{rules}
use Rattle.listing.proofs.Streams.{stream_start, stream_small, stream_short, stream_over, stream_less, stream_again, stream_end, stream_done, stream_number}
use Rattle.listing.proofs.Answers.{refusal_err, none_told, some_told}
use Rattle.listing.proofs.stream.list_events.Goals as goal

pub loop-event-init : goal.loop-event-init
loop-event-init c = stream_start c.args.s c.args.v c.args.input.now c.args.out.now _ (c.err.ensures.value ∙ refusal_err _ _ c.block_fault-fault.ensures) (search rules)

pub shape_of-out-in_default : goal.shape_of-out-in_default
shape_of-out-in_default c = c.loop-event.invariant.long

pub returns-in_default : goal.returns-in_default
returns-in_default c =
    let answer = stream_done c.args.s c.args.v c.args.input.now c.args.out.now _ (c.err.ensures.value ∙ refusal_err _ _ c.block_fault-fault.ensures) _ _
    (stream_end _ _ _ _ c.loop-event.h c.loop-event.invariant (stream_short _ _ _ _ c.loop-event.h c.loop-event.invariant _ c.next_event.ensures c.in_default.is (none_told _ _ c.is_none.ensures c.loop-event-test.true))) in
    record { listed = answer; number = stream_number c.args.s c.args.v c.args.input.now _ _ answer.0 }

pub list_event-h-requires : goal.list_event-h-requires
list_event-h-requires c = stream_small _ _ _ _ c.loop-event.h c.loop-event.invariant (none_told _ _ c.is_none.ensures c.loop-event-test.true)

pub loop-event-smaller : goal.loop-event-smaller
loop-event-smaller c =
    stream_less _ _ _ _ c.loop-event.h c.loop-event.invariant _ c.in-Some.event (none_told _ _ c.is_none.ensures c.loop-event-test.true) c.next_event.ensures c.in-Some.is _ _ c.list_event-h.ensures.0 c.list_event-h.ensures.1

pub loop-event-preserved : goal.loop-event-preserved
loop-event-preserved c =
    stream_again _ _ _ _ c.loop-event.h c.loop-event.invariant _ c.in-Some.event (none_told _ _ c.is_none.ensures c.loop-event-test.true) c.next_event.ensures c.in-Some.is _ _ c.list_event-h.ensures.0 c.list_event-h.ensures.1 (search rules)

pub shape_of-out : goal.shape_of-out
shape_of-out c = c.loop-event.invariant.long

pub returns : goal.returns
returns c =
    let answer = stream_done c.args.s c.args.v c.args.input.now c.args.out.now _ (c.err.ensures.value ∙ refusal_err _ _ c.block_fault-fault.ensures) _ _
    (stream_end _ _ _ _ c.loop-event.h c.loop-event.invariant (stream_over _ _ _ _ c.loop-event.h c.loop-event.invariant (some_told _ _ c.is_none.ensures c.loop-event-test.false))) in
    record { listed = answer; number = stream_number c.args.s c.args.v c.args.input.now _ _ answer.0 }
