-- The loop's invariant: the longest of the prefix so far and the rows from the index on is the longest of all.
use Rattle.prefix_table.proofs.Far.{Far}
use Rattle.prefix_table.proofs.level_of.Given as goal

abbrev pub invariant-loop-row : goal.invariant-loop-row
invariant-loop-row l = Far l.rows l.family l.source l.row-index l.reach l.level
