-- `decimal` answers as the decimal machine: the loop's invariant is that the verdict is the one from the index i on, behind the number n.
use Rattle.std.proofs.Common.{ℕ, ◌≤◌, ◌≡◌}
use Rattle.exact.specs.Machine.{from}
use Rattle.decimal.specs.DecimalVerdict.{decimal_verdict, step_decimal, least_decimal, behind}
use Rattle.decimal.proofs.decimal.Given as goal

abbrev pub invariant-loop-i : goal.invariant-loop-i
invariant-loop-i l =
    (l.n ≤ l.bound) × ((k m : ℕ) → decimal_verdict k m l.bound l.end l.s ≡ from k (step_decimal l.bound l.end) (least_decimal m) l.s l.i (behind l.n))
