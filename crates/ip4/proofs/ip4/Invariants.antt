-- `ip4` answers as four decimals one behind the other: the loop's invariant is that the verdict is the one from the octet i on, at the index at.
use Rattle.std.proofs.Common.{ℕ, ◌≤◌, ◌≡◌, length}
use Rattle.ip4.specs.Ip4Verdict.{ip4_verdict}
use Rattle.ip4.proofs.Turn.{octets_from}
use Rattle.ip4.proofs.ip4.Given as goal

abbrev pub invariant-loop-i : goal.invariant-loop-i
invariant-loop-i l =
    (length l.octets ≡ 4) × (l.at ≤ length l.s) × ((k m : ℕ) → ip4_verdict k m l.end l.s ≡ octets_from k m l.end l.s l.i l.octets l.at)
