-- The loop's invariant: the rows from the index on decide.
use Rattle.std.proofs.Common.{◌≡◌, drop}
use Rattle.std.specs.Prelude.{map}
use Rattle.prefix.specs.Prefix.{row_of}
use Rattle.prefix_table.specs.TableTests.{known}
use Rattle.prefix_table.proofs.is_known.Given as goal

abbrev pub invariant-loop-other : goal.invariant-loop-other
invariant-loop-other l = known (row_of l.row) (map row_of (drop l.other-index l.rows)) ≡ known (row_of l.row) (map row_of l.rows)
