-- Of a record in memory the test says what `Clean` says.
use Rattle.std.proofs.Common.{◌≡◌, rules, sym, ◌∙◌}
use Rattle.clean.specs.Unused.{clean_test}
use Rattle.clean.proofs.UnusedLaws.{clean_test_by}
use Rattle.clean.proofs.clean.Goals as goal

pub returns-then-clean_port-2 : goal.returns-then-clean_port-2
returns-then-clean_port-2 c =
    let e : c.clean_state.result ≡ clean_test c.args.r.now = search rules in
    let law = clean_test_by c.args.r.now (search rules, search rules) (search rules, search rules) in
    (e, λ t. law.0 (sym e ∙ t), λ x. e ∙ law.1 x)
