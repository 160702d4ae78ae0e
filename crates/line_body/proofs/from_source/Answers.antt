-- A field that is not whole answers for the line, and behind the last one the line is said.
use Rattle.std.proofs.Common.{rules, ◌≡◌, ℕ, ◌+◌, ap, ◌∙◌}
use Rattle.line_address.specs.Families.{shortest_address}
use Rattle.line_body.proofs.AddressLaws.{own_caller}
use Rattle.line_body.proofs.SourceLaws.{no_port, no_end, ends}
use Rattle.line_body.proofs.from_source.Goals as goal

pub returns-in_err-destination_port-clause-verdict : goal.returns-in_err-destination_port-clause-verdict
returns-in_err-destination_port-clause-verdict c =
    let a = c.args in
    let k = no_port a.inet a.s.now a.at (c.shortest.result + 5) (ap (λ (n : ℕ). n + 5) c.shortest.ensures) c.in_ok-source.ensures.verdict
    c.in_ok-destination.ensures.verdict c.in_ok-source_port.ensures.verdict c.in_err-destination_port.field-0.0 c.in_err-destination_port.ensures.verdict
    in
    search (rules, k)

pub returns-in_err-end-clause-verdict : goal.returns-in_err-end-clause-verdict
returns-in_err-end-clause-verdict c =
    let a = c.args in
    let k = no_end a.inet a.s.now a.at (c.shortest.result + 5) (ap (λ (n : ℕ). n + 5) c.shortest.ensures) c.in_ok-source.ensures.verdict
    c.in_ok-destination.ensures.verdict c.in_ok-source_port.ensures.verdict c.in_ok-destination_port.ensures.verdict c.in_err-end.field-0.0 c.in_err-end.ensures.verdict
    in
    search (rules, k)

pub returns-clause-verdict : goal.returns-clause-verdict
returns-clause-verdict c =
    let a = c.args in
    rw c.kind.ensures
    (ends a.inet a.s.now a.at (c.shortest.result + 5) (ap (λ (n : ℕ). n + 5) c.shortest.ensures) c.in_ok-source.ensures.verdict
    c.in_ok-destination.ensures.verdict c.in_ok-source_port.ensures.verdict c.in_ok-destination_port.ensures.verdict c.in_ok-end.ensures.verdict)
