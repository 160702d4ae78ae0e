-- The port is a decimal field.
use Rattle.std.proofs.Common.{rules, arith}
use Rattle.line_body.proofs.FieldLaws.{placed_port, port_fits}
use Rattle.line_body.proofs.port.Goals as goal

pub returns-in_err-number-clause-verdict : goal.returns-in_err-number-clause-verdict
returns-in_err-number-clause-verdict c =
    let a = c.args in
    let h = placed_port c.decimal.result a.s.now a.at a.behind a.end c.in_err-number.ensures (c.decimal.ensures.verdict 4 a.behind) c.requires.inside (omega arith) c.requires.few in
    search (rules, h.0)

pub overflow_cast-result : goal.overflow_cast-result
overflow_cast-result c =
    let a = c.args in
    let h = placed_port c.decimal.result a.s.now a.at a.behind a.end c.in_ok-number.ensures (c.decimal.ensures.verdict 4 a.behind) c.requires.inside (omega arith) c.requires.few in
    record { fits = port_fits a.s.now a.at a.behind a.end h.0 }

pub returns : goal.returns
returns c =
    let a = c.args in
    let h = placed_port c.decimal.result a.s.now a.at a.behind a.end c.in_ok-number.ensures (c.decimal.ensures.verdict 4 a.behind) c.requires.inside (omega arith) c.requires.few in
    record { verdict = h.0; inside = h.1 }
