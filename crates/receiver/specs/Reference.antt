-- Document 01, "Receiver": "the state of the last decided point".
use Rattle.std.specs.Prelude.{ℕ, Option}

-- the state that the next point is read against; none in a fresh receiver and after a gap
abbrev pub Reference : Type 0
Reference = Option ℕ
