-- Each address fills what `held` keeps of it, and each port is the number of its two bytes.
use Rattle.std.proofs.Common.{refl, arith}
use Rattle.record.proofs.RecordLaws.{same_record}
use Rattle.request.proofs.Given.{held_part}
use Rattle.request.proofs.connection_of.Goals as goal

pub returns : goal.returns
returns c =
    let b = c.args.bytes.now in
    let size = c.requires in
    same_record c.args.kind (held_part b 1 (omega arith) c.held.ensures) (held_part b 109 (omega arith) c.held-2.ensures)
    c.from_be_bytes.ensures c.from_be_bytes-2.ensures refl
