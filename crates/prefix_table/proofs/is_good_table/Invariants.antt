-- The loop's invariant: the rows from the index on decide.
use Rattle.std.proofs.Common.{◌≡◌, drop}
use Rattle.std.specs.Prelude.{map}
use Rattle.prefix.specs.Prefix.{row_of}
use Rattle.prefix_table.specs.TableTests.{good_rows}
use Rattle.prefix_table.proofs.is_good_table.Given as goal

abbrev pub invariant-loop-i : goal.invariant-loop-i
invariant-loop-i l = good_rows (map row_of (drop l.i l.rows)) ≡ good_rows (map row_of l.rows)
