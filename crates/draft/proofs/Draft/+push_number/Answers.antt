-- `push_number` puts the digits of what is left before the last digit, as `numeral` does.
use Rattle.std.proofs.Common.{◌≤◌, arith}
use Rattle.draft.specs.Numeral.{base_of}
use Rattle.draft.proofs.DraftLaws.{adds_more}
use Rattle.draft.proofs.NumeralLaws.{numeral_one, numeral_more}
use Rattle.draft.proofs.Draft.+push_number.Goals as goal

pub returns-then-small : goal.returns-then-small
returns-then-small t c =
    rw (← c.get-radix.ensures.value, numeral_one c.get-radix.result c.get-radix.ensures.range.0 c.args.n c.if-small.true, ← c.digit.ensures) c.push.ensures

pub returns : goal.returns
returns t c =
    let two : 2 ≤ base_of c.args.base = omega arith in
    let big : base_of c.args.base ≤ c.args.n = omega arith in
    let left = rw c.get-radix.ensures.value at c.push_number.ensures in
    let last = rw (c.digit-2.ensures, c.get-radix.ensures.value) at c.push-2.ensures in
    rw (numeral_more (base_of c.args.base) two c.args.n big) (adds_more left last)
