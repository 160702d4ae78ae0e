-- The test.
use Rattle.std.proofs.Common.{sym, ◌∙◌}
use Rattle.tlv.proofs.Test.{tested_is}
use Rattle.tlv_step.proofs.TlvArea.new.Goals as goal

pub invariant_of-result : goal.invariant_of-result
invariant_of-result c =
    let says = c.well_formed-2.ensures in
    record { filled = tested_is c.args.bytes.now c.well_formed-2.result says.0 says.1 ∙ c.if-well_formed.true }

pub returns-else-well_formed-clause-tested : goal.returns-else-well_formed-clause-tested
returns-else-well_formed-clause-tested c =
    let says = c.well_formed-2.ensures in
    sym (tested_is c.args.bytes.now c.well_formed-2.result says.0 says.1 ∙ c.if-well_formed.false)
