use Rattle.std.proofs.lemmas.Result.{err_from_is_err_and}
use Rattle.bulk.specs.Block.{in_levels, parts}
use Rattle.lent_receiver.proofs.Receivings.{block_short, block_done}
use Rattle.lent_receiver.proofs.receive_levels.Goals as goal

pub returns-then-state-lt16 : goal.returns-then-state-lt16
returns-then-state-lt16 c = block_short c.args.state.now (in_levels c.args.levels.now) (parts c.args.line.now c.args.plain.now c.args.distance.now) c.if-state-lt16.true

pub returns-in_err-s : goal.returns-in_err-s
returns-in_err-s c =
    let p = err_from_is_err_and c.from_residual.result c.from_residual.ensures.1 in
    rw (p.1, p.2) (block_done c.args.state.now (in_levels c.args.levels.now) (parts c.args.line.now c.args.plain.now c.args.distance.now) _ _ _ c.if-state-lt16.false c.load_receiver.ensures c.in_err-s.ensures.value c.in_err-s.ensures.told)

pub returns : goal.returns
returns c =
    rw c.put_receiver.ensures (block_done c.args.state.now (in_levels c.args.levels.now) (parts c.args.line.now c.args.plain.now c.args.distance.now) _ _ _ c.if-state-lt16.false c.load_receiver.ensures c.in_ok-s.ensures.value c.in_ok-s.ensures.told)
