-- What is left of the bytes falls from `group` to `colon` and back. What is answered from a place in the group answers from where the group begins.
use Rattle.std.proofs.Common.{◌≡◌, List, ℕ, ◌+◌, ◌-◌, ◌^◌, ◌≤◌, ◌<◌, length}
use Rattle.exact.specs.declared.Scan.{Scan}
use Rattle.ip6.specs.Machine.{digits}
use Rattle.ip6.specs.Partial.{sofar, Sized, gathered_of}
use Rattle.ip6.specs.Answer.{From}
use Rattle.ip6.proofs.+colon_group.Given as goal

abbrev pub decreases-group : goal.decreases-group
decreases-group l = length l.s.now - l.i

abbrev pub decreases-colon : goal.decreases-colon
decreases-colon l = length l.s.now - l.i

abbrev pub invariant-group-loop-at : goal.invariant-group-loop-at
invariant-group-loop-at l =
    (l.at ≡ l.i + l.n) × (l.n ≤ 4) × (l.v < 16 ^ l.n) × Sized (sofar l.groups l.count l.gap)
    × ((r : Scan (Unit {0})) (g : List ℕ) → From l.end l.s l.at (digits (gathered_of (sofar l.groups l.count l.gap)) l.n l.v) r g
    → From l.end l.s l.i (digits (gathered_of (sofar l.initial.groups l.count l.gap)) 0 0) r g)
