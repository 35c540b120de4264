use mathlib.Core.Path.{◌≡◌, refl}
use mathlib.Core.List.{[], ◌∷◌}
use native.Mathlib.Omega.{arith}
use borrow.Author.Rules.{rules}
use Rattle.listing.proofs.Writes.{rest_then, rest_none, bits-start, bits-step, bits_end}
use Rattle.listing.proofs.put_bits.Goals as goal

pub loop-k-init : goal.loop-k-init
loop-k-init c = (omega arith, refl, bits-start c.args.out.now c.args.at c.args.w c.args.v c.args.unsettled)

pub overflow_cast-k : goal.overflow_cast-k
overflow_cast-k c = omega arith

pub overflow_add-at : goal.overflow_add-at
overflow_add-at c = omega arith

pub glyph_at-requires : goal.glyph_at-requires
glyph_at-requires c = omega arith

pub put8-requires : goal.put8-requires
put8-requires c = tt

pub loop-k-preserved : goal.loop-k-preserved
loop-k-preserved c =
    let e = bits-step c.args.w c.args.v c.args.unsettled c.loop-k.k _ c.loop-k-test.true c.glyph_at.ensures in
    (omega arith, search rules, rest_then {u = _ ∷ []} c.loop-k.invariant.2 e (record { written = c.put8.ensures; behind = omega arith }))

pub overflow_add-result : goal.overflow_add-result
overflow_add-result c = omega arith

pub returns : goal.returns
returns c =
    let e : c.loop-k.k ≡ c.args.w = omega (arith, c.loop-k.invariant.0) in
    (rw e at (rest_none c.loop-k.invariant.2 (bits_end c.args.w c.args.v c.args.unsettled c.loop-k.k c.loop-k-test.false)), omega arith)
