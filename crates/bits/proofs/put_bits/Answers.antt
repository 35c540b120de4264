use Rattle.bits.proofs.Loops.{put_start, put_go, rest_go, put_end}
use Rattle.bits.proofs.put_bits.Goals as goal

pub loop-k-init : goal.loop-k-init
loop-k-init c = let p = put_start c.args.out.now c.args.v in record { written = p.0; left = p.1 }

pub loop-k-preserved : goal.loop-k-preserved
loop-k-preserved c =
    let w = c.loop-k.invariant.written in
    let q = c.loop-k.invariant.left in
    record {
      written = put_go c.loop-k.out _ c.loop-k.k c.args.v c.loop-k.rest c.loop-k.auto.out c.loop-k.auto.k w q c.loop-k-test.true;
      left = rest_go c.loop-k.out _ c.loop-k.k c.args.v c.loop-k.rest c.loop-k.auto.out c.loop-k.auto.k w q c.loop-k-test.true;
    }

pub returns : goal.returns
returns c =
    put_end c.loop-k.out _ c.loop-k.k c.args.v c.loop-k.rest c.loop-k.auto.out c.loop-k.auto.k c.loop-k.invariant.written c.loop-k.invariant.left c.loop-k-test.false
