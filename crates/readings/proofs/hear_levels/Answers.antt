use Prim.Native.Nat.{◌/◌}
use mathlib.Core.Path.{sym, ap, ◌∙◌}
use mathlib.Core.List.{map}
use lib.ListN.{length}
use lib.Seq.{length-sets}
use Rattle.levels.specs.Levels.{rounded}
use Rattle.bulk.specs.Block.{parts}
use Rattle.readings.proofs.LevelLaws.{chunk_even, chunk_some, chunk_held, chunk_reached, chunk_rest, levels-heard}
use Rattle.readings.proofs.hear_levels.Goals as goal

pub put_units-requires : goal.put_units-requires
put_units-requires c =
    let i = c.loop-part.invariant in
    let f = c.in-Some.ensures.steps.1 in
    let size = i.3 in
    let held = chunk_held c.args.levels.now _ c.in-Some.part.now _ c.loop-part.k (length c.args.units.now) _ i.2 size c.requires.1 c.requires.2 f.0 f.1 f.2 in
    (chunk_reached c.args.levels.now _ c.in-Some.part.now _ c.loop-part.k (length c.args.units.now) _ i.2 size c.requires.1 c.requires.2 f.0 f.1 f.2 c.requires.0, rw i.1 held)

pub loop-part-preserved : goal.loop-part-preserved
loop-part-preserved c =
    let i = c.loop-part.invariant in
    let f = c.in-Some.ensures.steps.1 in
    let held = chunk_held c.args.levels.now _ c.in-Some.part.now _ c.loop-part.k (length c.args.units.now) _ i.2 i.3 c.requires.1 c.requires.2 f.0 f.1 f.2 in (
      levels-heard c.args.s (parts c.args.line.now c.args.plain.now c.args.distance.now) c.args.levels.now c.loop-part.t (parts c.loop-part.line c.loop-part.plain c.loop-part.distance) c.loop-part.k (length c.in-Some.part.now / 2) i.0 c.requires.4
          c.loop-part.units _ c.in-Some.part.now _ (sym i.2 ∙ f.0)
          (chunk_even c.args.levels.now _ c.in-Some.part.now _ c.loop-part.k (length c.args.units.now) _ i.2 i.3 c.requires.1 c.requires.2 f.0 f.1 f.2)
          (chunk_some c.args.levels.now _ c.in-Some.part.now _ c.loop-part.k (length c.args.units.now) _ i.2 i.3 c.requires.1 c.requires.2 f.0 f.1 f.2)
          (rw i.1 held) c.put_units.ensures _ _ _ c.receive_points.ensures.told c.receive_points.ensures.value.1 c.unwrap_or-t.ensures,
      ap length c.put_units.ensures ∙ length-sets c.loop-part.units 0 (map rounded c.in-Some.part.now) ∙ i.1,
      chunk_rest c.args.levels.now _ c.in-Some.part.now _ c.loop-part.k (length c.args.units.now) _ i.2 i.3 c.requires.1 c.requires.2 f.0 f.1 f.2,
      c.in-Some.ensures.steps.0 ∙ i.3,
    )
