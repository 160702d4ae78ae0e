-- Behind the last row the longest prefix so far is the longest of all.
use Rattle.std.specs.Prelude.{None}
use Rattle.std.proofs.Common.{sym, ap, ◌∙◌, List, arith}
use Rattle.prefix.specs.Prefix.{Prefix}
use Rattle.prefix_table.specs.TableTests.{longest_from, level_of}
use Rattle.prefix_table.proofs.RowLaws.{rows_done, is_rows}
use Rattle.prefix_table.proofs.level_of.Goals as goal

pub returns : goal.returns
returns c =
    let x = c.args in
    let rows = c.as_chunks.result.0.now in
    let f = c.loop-row.invariant in
    f.gives
    ∙ ap level_of
    (sym (ap (λ (left : List Prefix). longest_from f.best left x.family x.source.now) (rows_done rows c.loop-row.row-index (omega arith)))
    ∙ f.decides
    ∙ ap (λ (all : List Prefix). longest_from None all x.family x.source.now) (is_rows x.table.now rows c.as_chunks.ensures.front))
