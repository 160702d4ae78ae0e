-- Where what remains is well-formed, the TLV at the place says all.
use Rattle.std.proofs.Common.{arith}
use Rattle.std.proofs.lemmas.Grind.{common_steps}
use Rattle.tlv_step.proofs.Laws.{from_head}
use Rattle.tlv_step.proofs.head_at.Goals as goal

pub returns-in-empty-clause-step : goal.returns-in-empty-clause-step
returns-in-empty-clause-step c = λ w. from_head c.args.area.now c.args.at _ w (grind (arith, common_steps))

pub returns-else-value-size-clause-step : goal.returns-else-value-size-clause-step
returns-else-value-size-clause-step c = λ w. from_head c.args.area.now c.args.at _ w (grind (arith, common_steps))
