-- Behind the space the source follows.
use Rattle.std.proofs.Common.{ℕ, ◌+◌, ◌*◌, ap, ◌∙◌}
use Rattle.line_body.proofs.SourceLaws.{behind_space}
use Rattle.line_body.proofs.from_space.Goals as goal

pub returns-clause-verdict : goal.returns-clause-verdict
returns-clause-verdict c =
    c.from_source.ensures.verdict
    ∙ behind_space c.args.inet c.args.s.now c.args.at _ (ap (λ (n : ℕ). 2 * n + 5) c.shortest.ensures) c.in_ok-end.ensures.verdict
