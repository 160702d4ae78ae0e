-- Each part is put behind the one before it, and the line fits.
use Rattle.std.proofs.Common.{◌^◌, ◌<◌, arith}
use Rattle.draft.proofs.DraftLaws.{adds_more}
use Rattle.report.proofs.Lengths.{accepted_fits}
use Rattle.report.proofs.push_accepted.Goals as goal

pub returns-clause-line : goal.returns-clause-line
returns-clause-line c =
    let count = adds_more (adds_more c.push_word.ensures c.push_number.ensures) c.push.ensures in
    adds_more (adds_more count (rw c.kind_word.ensures at c.push_word-2.ensures)) c.push-2.ensures

pub returns-clause-fits : goal.returns-clause-fits
returns-clause-fits c = let fits : c.args.n < 2 ^ 64 = omega arith in accepted_fits c.args.n c.args.kind fits
