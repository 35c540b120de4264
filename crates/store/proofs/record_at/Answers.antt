use Rattle.store.specs.Layout.{rec}
use lib.ListN.{length, take, drop}
use native.Mathlib.Omega.{arith}
use Prim.Native.Nat.{ℕ, ◌+◌, ◌*◌, ◌-◌}
use Rattle.store.proofs.Records.{rec-length}
use mathlib.Core.Path.{◌≡◌, ap, ◌∙◌}
use Rattle.store.proofs.record_at.Goals as goal

pub returns : goal.returns
returns c = let e : take (32 * c.args.i + 32 - 32 * c.args.i) (drop (32 * c.args.i) c.args.s.now) ≡ rec c.args.s.now c.args.i =
    ap (λ (k : ℕ). take k (drop (32 * c.args.i) c.args.s.now)) (let q : 32 * c.args.i + 32 - 32 * c.args.i ≡ 32 = omega arith in q) in
    (e, ap length e ∙ rec-length c.args.s.now c.args.i (omega arith))
