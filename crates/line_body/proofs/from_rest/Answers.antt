-- The end of the line is a field, and behind it the header is said.
use Rattle.std.proofs.Common.{rules, ◌≡◌, ℕ, ◌+◌, ap, ◌∙◌, drop, arith}
use Rattle.exact.specs.Claim.{accepted}
use Rattle.exact.specs.Field.{flat}
use Rattle.exact.proofs.ParserLemmas.{just}
use Rattle.record.specs.declared.Kind.TheVariants.{Unspecified}
use Rattle.record.specs.Records.{bare}
use Rattle.fields.specs.LineFields.{lined, rest_field}
use Rattle.answer.proofs.PlaceLaws.{stops, goes_on}
use Rattle.line_body.proofs.FieldLaws.{placed_end}
use Rattle.line_body.proofs.from_rest.Goals as goal

pub returns-in_err-rest-clause-verdict : goal.returns-in_err-rest-clause-verdict
returns-in_err-rest-clause-verdict c =
    let a = c.args in
    let h = placed_end c.line_end.result a.s.now a.at c.in_err-rest.ensures (c.line_end.ensures.verdict 5 0) c.requires (omega arith) in
    let k = stops c.in_err-rest.field-0.0 a.at _ (λ x. (just (flat 0) (lined (bare Unspecified))).verdict) (drop a.at a.s.now) h.0 in
    search (rules, k)

pub returns-clause-verdict : goal.returns-clause-verdict
returns-clause-verdict c =
    let a = c.args in
    let h = placed_end c.line_end.result a.s.now a.at c.in_ok-rest.ensures (c.line_end.ensures.verdict 5 0) c.requires (omega arith) in
    let end : ℕ = c.in_ok-rest.rest.end in
    let zero_more : end ≡ end + 0 = omega arith in
    rw c.of_kind.ensures
    (ap (λ (n : ℕ). accepted (lined (bare Unspecified)) n) zero_more ∙ goes_on rest_field (λ x. just (flat 0) (lined (bare Unspecified))) a.s.now a.at h.0)
