use Rattle.std.proofs.Common.{◌≡◌, ◌≤◌}
use Rattle.ip6.specs.Partial.{spread_at}
use Rattle.ip6.proofs.spread_out.Given as goal

abbrev pub invariant-loop-i : goal.invariant-loop-i
invariant-loop-i l = (l.gap ≤ l.i) × (l.i ≤ l.initial.i) × (l.groups ≡ spread_at l.initial.groups l.initial.i l.i)

abbrev pub decreases-loop-i : goal.decreases-loop-i
decreases-loop-i l = l.i
