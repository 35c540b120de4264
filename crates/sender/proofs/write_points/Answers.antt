use Rattle.line.specs.declared.Point.{Point}
use Rattle.line.proofs.Signed.{back}
use mathlib.Core.Path.{◌∙◌, ap}
use Prim.Native.Nat.{◌<◌}
use borrow.Author.Rules.{rules}
use native.Mathlib.Omega.{arith}
use Rattle.line.proofs.ByMode.{width_range}
use Rattle.sender.proofs.SendLaws.{group-bits, left_next, looked_up, with_line, plain_law, sent_all, wrote_all}
use Rattle.sender.proofs.write_points.Goals as goal

pub chunks_exact-requires : goal.chunks_exact-requires
chunks_exact-requires c = omega (arith, width_range c.args.s.mode)

pub loop-k-init-derived : goal.loop-k-init-derived
loop-k-init-derived c = let h : 0 < c.width_of-w.result = omega (arith, width_range c.args.s.mode) in search rules

pub group_value-requires : goal.group_value-requires
group_value-requires c =
    let w = width_range c.args.s.mode in
    group-bits _ _ _ _ _ _ _ _ _ c.loop-k.invariant.1 _ _ (omega (arith, w)) c.in-Some.ensures.steps.0.1.0 (c.in-Some.ensures.steps.0.1.1 ∙ c.loop-k.invariant.0) (omega (arith, w)) (omega (arith, w))

pub loop-k-preserved : goal.loop-k-preserved
loop-k-preserved c = (
  c.in-Some.ensures.steps.0.0 ∙ c.loop-k.invariant.0,
  left_next _ _ _ _ _ _ _ _ _ c.loop-k.invariant.1 _ _ (omega (arith, width_range c.args.s.mode)) c.in-Some.ensures.steps.0.1.0 (c.in-Some.ensures.steps.0.1.1 ∙ c.loop-k.invariant.0)
      _ _ _ _ _ _ c.in-Some.ensures.steps.1 c.in-Some.ensures.steps.2 c.width_of-w.ensures c.group_value.ensures
      (plain_law c.args.s c.requires.1 _ _ _ _ _ _ c.requires.0 c.full_register-h.ensures c.scramble_plain-g.ensures c.coded_in-reference.ensures)
      (back _ (record { sfits = c.struct_told-in-loop-k-1.given.0.1 }) ∙ ap (λ (p : Point). p.re) (looked_up _ _ _ c.constellation-points.ensures)) (back _ (record { sfits = c.struct_told-in-loop-k-1.given.1.0.1 }) ∙ ap (λ (p : Point). p.im) (looked_up _ _ _ c.constellation-points.ensures)),
)

pub returns : goal.returns
returns c = rw (← c.width_of-w.ensures) (
  ap (with_line c.args.s _) c.full_register-line.ensures ∙ sent_all _ _ _ _ _ _ _ _ _ c.loop-k.invariant.1 _ c.in-None.ensures.steps.0.1.0 c.loop-k.invariant.0,
  wrote_all _ _ _ _ _ _ _ _ _ c.loop-k.invariant.1 _ c.in-None.ensures.steps.0.1.0 c.loop-k.invariant.0,
)
