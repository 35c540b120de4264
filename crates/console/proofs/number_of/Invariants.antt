use Rattle.std.proofs.Common.{◌≡◌, drop}
use Rattle.console.specs.Words.{number, number_from}
use Rattle.console.proofs.number_of.Given as goal

abbrev pub invariant-loop-c : goal.invariant-loop-c
invariant-loop-c l = number l.word ≡ number_from l.n (drop l.c-index l.word)
