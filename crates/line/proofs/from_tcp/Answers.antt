-- Behind "TCP" the family follows.
use Rattle.std.proofs.Common.{◌∙◌}
use Rattle.fields.specs.Exactness.{address4, address6}
use Rattle.fields.specs.LineFields.{tcp_word, families}
use Rattle.answer.proofs.PlaceLaws.{goes_on}
use Rattle.line.proofs.from_tcp.Goals as goal

pub returns-clause-verdict : goal.returns-clause-verdict
returns-clause-verdict c =
    c.from_family.ensures.verdict ∙ goes_on (tcp_word 13) (λ x. families address4 address6) c.args.s.now c.args.at c.in_ok-tcp.ensures.verdict
