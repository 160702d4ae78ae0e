-- Each part is put behind the one before it, and the line fits.
use Rattle.std.proofs.Common.{◌^◌, ◌<◌, arith}
use Rattle.draft.proofs.DraftLaws.{adds_more}
use Rattle.report.proofs.Lengths.{refused_fits}
use Rattle.report.proofs.push_stop.Goals as goal

pub returns-in-Refused-clause-line : goal.returns-in-Refused-clause-line
returns-in-Refused-clause-line c =
    let told = rw (c.from-in-Refused.ensures, c.from.ensures) at c.push_number.ensures in
    let number = adds_more (adds_more c.push_word-in-Refused.ensures told) c.push_word-in-Refused-2.ensures in
    rw c.in-Refused.is (adds_more (adds_more number c.push_number-in-Refused.ensures) c.push.ensures)

pub returns-in-Refused-clause-fits : goal.returns-in-Refused-clause-fits
returns-in-Refused-clause-fits c =
    let fits : c.in-Refused.place < 2 ^ 64 = omega arith in
    rw c.in-Refused.is (refused_fits c.in-Refused.refusal c.in-Refused.place fits)
