-- As many rows as the bytes have, and each is good and none of those behind it.
use Rattle.std.proofs.Common.{◌≡◌, rules, sym, ap, ◌∙◌, ℕ, List, [], ◌+◌, ◌-◌, arith, length, take, drop, get_or, take_all, length-drop}
use Rattle.std.specs.Prelude.{map}
use Rattle.prefix.specs.Prefix.{row_of}
use Rattle.prefix_table.specs.TableTests.{known, good_rows}
use Rattle.prefix_table.proofs.RowLaws.{too_many, by_rows, bad, twice, rows_done}
use Rattle.prefix_table.proofs.is_good_table.Goals as goal

pub returns-then-rows-gt-MOST_ROWS : goal.returns-then-rows-gt-MOST_ROWS
returns-then-rows-gt-MOST_ROWS c =
    let n = c.as_chunks.ensures.front_len in
    too_many c.args.table.now c.as_chunks.result.0.now c.as_chunks.ensures.front (omega arith)

pub returns-then-not-is_good : goal.returns-then-not-is_good
returns-then-not-is_good c =
    let table = c.args.table.now in
    let rows = c.as_chunks.result.0.now in
    let n = c.as_chunks.ensures.front_len in
    let m = c.as_chunks.ensures.back_len in
    let none : length c.as_chunks.result.1.now ≡ 0 = search rules in
    bad rows c.loop-i.i _ (omega arith) (c.loop-i.invariant ∙ by_rows table rows c.as_chunks.ensures.front (omega arith) (omega arith))
    (sym c.is_good.ensures ∙ c.if-not-is_good.true)

pub returns-then-is_known : goal.returns-then-is_known
returns-then-is_known c =
    let table = c.args.table.now in
    let rows = c.as_chunks.result.0.now in
    let n = c.as_chunks.ensures.front_len in
    let m = c.as_chunks.ensures.back_len in
    let none : length c.as_chunks.result.1.now ≡ 0 = search rules in
    let p = row_of (get_or rows c.loop-i.i []) in
    let behind = drop (c.loop-i.i + 1) rows in
    let left = length-drop (c.loop-i.i + 1) rows in
    let cut : take (length rows - (c.loop-i.i + 1)) behind ≡ behind = take_all (length rows - (c.loop-i.i + 1)) behind (omega arith) in
    twice rows c.loop-i.i _ (omega arith) (c.loop-i.invariant ∙ by_rows table rows c.as_chunks.ensures.front (omega arith) (omega arith))
    (sym c.is_good.ensures ∙ c.if-not-is_good.false) (sym (c.is_known.ensures ∙ ap (λ (l : List (List ℕ)). known p (map row_of l)) cut) ∙ c.if-is_known.true)

pub returns : goal.returns
returns c =
    let table = c.args.table.now in
    let rows = c.as_chunks.result.0.now in
    let n = c.as_chunks.ensures.front_len in
    let m = c.as_chunks.ensures.back_len in
    let none : length c.as_chunks.result.1.now ≡ 0 = search rules in
    sym (ap good_rows (rows_done rows c.loop-i.i (omega arith)))
    ∙ c.loop-i.invariant
    ∙ by_rows table rows c.as_chunks.ensures.front (omega arith) (omega arith)
