use mathlib.Core.Path.{refl}
use Rattle.lent_receiver.proofs.Receivings.{read_state, read_none, read_neither}
use Rattle.lent_receiver.proofs.load_reference.Goals as goal

pub returns-then-clear-kind : goal.returns-then-clear-kind
returns-then-clear-kind c = read_state _ _ _ _ _ refl refl refl refl c.if-clear-kind.true

pub returns-then-clear-kind-2 : goal.returns-then-clear-kind-2
returns-then-clear-kind-2 c = read_none _ _ _ _ _ refl refl refl refl c.if-clear-kind.false c.if-clear-kind-2.true

pub returns : goal.returns
returns c = read_neither _ _ _ _ _ refl refl refl refl c.if-clear-kind.false c.if-clear-kind-2.false
