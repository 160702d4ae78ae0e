-- Each address as `held` ensures it, with the kind's length.
use Rattle.std.proofs.Common.{refl}
use Rattle.record.proofs.RecordLaws.{same_record}
use Rattle.address_block.proofs.AddressBlockLaws.{address_part}
use Rattle.address_block.proofs.record_from.Goals as goal

pub returns : goal.returns
returns c =
    let x = c.args in
    let n = c.address_length-n.ensures in
    same_record x.kind (address_part x.kind x.source.now n c.front.ensures.2 c.held.ensures) (address_part x.kind x.destination.now n c.front-2.ensures.2 c.held-2.ensures) refl refl refl
