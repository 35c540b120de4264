use Rattle.console.proofs.until_ended.Given as goal

abbrev pub invariant-loop : goal.invariant-loop
invariant-loop g l = goal.F-IsAlwaysCallable g l.step × ((before after : _) × goal.F-step g before l.given after)
