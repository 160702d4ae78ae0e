-- The run is the longest behind the first i groups.
use Rattle.std.proofs.Common.{◌≡◌, ◌+◌, ◌≤◌, drop}
use Rattle.zero_run.specs.ZeroRun.{zeros_ahead, longest_run}
use Rattle.zero_run.proofs.longest_run.Given as goal

abbrev pub invariant-loop-i : goal.invariant-loop-i
invariant-loop-i l = record {
  few : l.zeros + l.i ≤ 8;
  inside : l.run.before + l.run.count ≤ 8;
  ahead : l.zeros ≡ zeros_ahead (drop l.i l.groups);
  before : l.run.before ≡ l.i + (longest_run (drop l.i l.groups)).before;
  count : l.run.count ≡ (longest_run (drop l.i l.groups)).count;
}
