-- `region` judges as the machine does: the loop's invariant is that the verdict is the one from the place i on, where a TLV begins if bytes are left.
use Rattle.std.proofs.Common.{ℕ, ◌-◌, ◌≤◌, ◌≡◌}
use Rattle.tlv.specs.RegionVerdict.{judge}
use Rattle.tlv.proofs.Turn.{onward}
use Rattle.tlv.proofs.region.Given as goal

abbrev pub invariant-loop-i : goal.invariant-loop-i
invariant-loop-i l = (l.i ≤ l.n) × ((k m : ℕ) → judge k m l.n l.s ≡ onward k m l.n l.s l.i)

abbrev pub decreases-loop-i : goal.decreases-loop-i
decreases-loop-i l = l.n - l.i
