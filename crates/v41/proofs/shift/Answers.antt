use Prim.Native.Nat.{ℕ, ◌<◌}
use mathlib.Core.Path.{sym, subst}
use Rattle.v41.proofs.RegisterLaws.{next_low, next-high, next_small}
use Rattle.v41.proofs.shift.Goals as goal

pub returns-then-t-lt65536 : goal.returns-then-t-lt65536
returns-then-t-lt65536 c = (next_low c.args.r c.args.b c.if-t-lt65536.true, c.if-t-lt65536.true)

pub returns : goal.returns
returns c = let e = next-high c.args.r c.args.b c.if-t-lt65536.false in (e, subst (λ (n : ℕ). n < 65536) (sym e) (next_small c.args.r c.args.b c.requires.0 c.requires.1))
