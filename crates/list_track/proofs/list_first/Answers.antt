use Rattle.std.proofs.Common.{rules, take}
use Rattle.list_track.proofs.FirstLaws.{given_text}
use Rattle.list_track.proofs.list_first.Goals as goal

pub returns : goal.returns
returns c =
    let e = c.list.ensures in
    given_text (take c.args.n c.args.input.now) c.args.out.now c.list.new.out (search rules) c.list.result _ c.unwrap_or.ensures e.1 e.2
