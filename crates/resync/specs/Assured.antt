-- Demand 3 and document 02, R-6: which data bits are assured.
use Rattle.std.specs.Prelude.{ℕ, suc, ◌*◌, ◌-◌, ◌&&◌, cond, List, [], ◌∷◌, drop}
use Rattle.line.specs.Mode.{by_mode, width, guarded}
use Rattle.scrambler.specs.declared.Register.{Register}
use Rattle.scrambler.specs.Register.{fresh, counting, differs, push}
use Rattle.scrambler.specs.Scramble.{Datum, unsettled, settled}
use Rattle.line.specs.Table.{All}
use Rattle.receiver.specs.Calls.{Heard, lines_from2, data_heard, row}

-- "point 6 (mode 1), 5 (mode 2), 14 (mode 3), 8 (mode 4)", counted from 1
unfoldable pub assured_point : ℕ → ℕ
assured_point m = by_mode m 6 5 14 8

-- R-6: the line bits up to and with the first that differs from all three line bits 8, 9 and 12 back, sought once 12 are held; all of them
-- if none does
abbrev pub until_reset : ℕ → Register → List ℕ → ℕ
until_reset m h [] = 0
until_reset m h (b ∷ bs) = cond (counting m h && differs h b) 1 (suc (until_reset m (push m h b) bs))

-- how many of the data bits from the second point on are not assured, by the line bits from there on: those of the points before the
-- assured one; for modes 5 and 6 "the users' assurance .. begins after 12 line bits from the second point on and then the first line bit
-- that differs from all three"
unfoldable pub unassured : ℕ → List ℕ → ℕ
unassured m bs = cond (guarded m) (until_reset m fresh bs) ((assured_point m - 2) * width m)

-- all data bits from the n-th point on, in one row, and those that are assured
abbrev pub data_from : ℕ → List Heard → List Datum
data_from n xs = data_heard (drop (n - 1) xs)

abbrev pub assured_data : ℕ → List Heard → List Datum
assured_data m xs = drop (unassured m (row (lines_from2 xs))) (data_from 2 xs)

abbrev pub Settled : Datum → Type 0
Settled unsettled = ⊥
Settled (settled b) = Unit {0}

abbrev pub AllSettled : List Datum → Type 0
AllSettled ds = All Settled ds
