-- Behind "UNKNOWN" the line's end follows.
use Rattle.std.proofs.Common.{◌∙◌}
use Rattle.fields.specs.LineFields.{unknown_word, unknown_end}
use Rattle.answer.proofs.PlaceLaws.{goes_on}
use Rattle.line.proofs.from_unknown.Goals as goal

pub returns-clause-verdict : goal.returns-clause-verdict
returns-clause-verdict c =
    c.from_unknown_end.ensures.verdict ∙ goes_on unknown_word (λ x. unknown_end) c.args.s.now c.args.at c.in_ok-unknown.ensures.verdict
