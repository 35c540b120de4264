use native.Mathlib.Omega.{arith}
use Rattle.store.proofs.Sounds.{accepted_sound}
use Rattle.store.proofs.RecordRuns.{records-start, on_start}
use Rattle.store.proofs.chain.Track.records.Goals as goal

pub next_of-requires : goal.next_of-requires
next_of-requires c = let o = accepted_sound _ c.args.self.accepted in omega (arith, o.whole, o.least)

pub invariant_of-result : goal.invariant_of-result
invariant_of-result c = on_start _ _ c.args.self.accepted c.next_of.ensures.0

pub returns : goal.returns
returns c = records-start _ _ c.next_of.ensures.0
