-- `line_end` answers as the line's machine: the loop's invariant is that the verdict is the one from the index i on, with limit - i bytes to come.
use Rattle.std.proofs.Common.{ℕ, ◌≤◌, ◌-◌, ◌≡◌, length}
use Rattle.exact.specs.Machine.{from}
use Rattle.line_end.specs.LineVerdict.{line, step_line, least_line, line_verdict}
use Rattle.line_end.proofs.line_end.Given as goal

abbrev pub invariant-loop-i : goal.invariant-loop-i
invariant-loop-i l =
    (l.i ≤ length l.s) × (l.i ≤ l.limit) × ((k m : ℕ) → line_verdict k m l.limit l.s ≡ from k step_line (least_line m) l.s l.i (line l.cr (l.limit - l.i)))

abbrev pub decreases-loop-i : goal.decreases-loop-i
decreases-loop-i l = length l.s - l.i
