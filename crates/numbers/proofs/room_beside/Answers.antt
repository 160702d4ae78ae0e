-- The test is that of `room_beside`.
use Rattle.std.proofs.Common.{sym, ap, Bool, le-leb}
use borrow.Author.Tests.{lt-leb}
use Rattle.exact.specs.Pick.{pick}
use Rattle.numbers.specs.Numbers.{numbers_size}
use Rattle.numbers.proofs.room_beside.Goals as goal

pub returns-then-numbers-lt-NUMBERS : goal.returns-then-numbers-lt-NUMBERS
returns-then-numbers-lt-NUMBERS c =
    let x = c.args in
    ap (λ (b : Bool). pick b x.output 0) (sym (lt-leb numbers_size x.numbers c.if-numbers-lt-NUMBERS.true))

pub returns-else-numbers-lt-NUMBERS : goal.returns-else-numbers-lt-NUMBERS
returns-else-numbers-lt-NUMBERS c =
    let x = c.args in
    ap (λ (b : Bool). pick b x.output 0) (sym (le-leb numbers_size x.numbers c.if-numbers-lt-NUMBERS.false))
