-- What a digit makes of a number, as a move of the decimal machine.
use Rattle.std.specs.Prelude.{ℕ, Option, Some, None}
use Rattle.exact.specs.Machine.{Move, go, dead}
use Rattle.decimal.specs.DecimalVerdict.{At, behind}

abbrev pub move_of : Option ℕ → Move At ℕ
move_of (Some n) = go (behind n)
move_of None = dead
