-- The row at the index, or one behind it, has the prefix.
use Rattle.std.proofs.Common.{sym, ap, ◌∙◌, arith}
use Rattle.prefix.specs.Prefix.{row_of}
use Rattle.prefix_table.specs.TableTests.{known}
use Rattle.prefix_table.proofs.RowLaws.{found, passed, rows_done}
use Rattle.prefix_table.proofs.is_known.Goals as goal

pub returns-then-same_prefix : goal.returns-then-same_prefix
returns-then-same_prefix c =
    found (row_of c.args.row.now) c.args.rows.now c.loop-other.other-index _ (omega arith) c.loop-other.invariant (sym c.same_prefix.ensures ∙ c.if-same_prefix.true)

pub loop-other-preserved : goal.loop-other-preserved
loop-other-preserved c =
    passed (row_of c.args.row.now) c.args.rows.now c.loop-other.other-index _ (omega arith) c.loop-other.invariant (sym c.same_prefix.ensures ∙ c.if-same_prefix.false)

pub returns : goal.returns
returns c =
    sym (ap (known (row_of c.args.row.now)) (rows_done c.args.rows.now c.loop-other.other-index (omega arith))) ∙ c.loop-other.invariant
