-- The address is a field of its family, with zeros behind it.
use Rattle.std.proofs.Common.{arith}
use Rattle.line_address.specs.Families.{width}
use Rattle.line_body.proofs.FieldLaws.{placed_address, placed_padded}
use Rattle.line_body.proofs.address_at.Goals as goal

pub returns : goal.returns
returns c =
    let a = c.args in
    let r = c.address.result in
    let h = placed_address a.inet r a.s.now a.at a.behind c.place.ensures (c.address.ensures.verdict a.behind) c.requires.inside (omega arith) c.requires.few in
    record { verdict = h.0; padded = placed_padded (width a.inet) r a.at a.behind c.place.ensures c.address.ensures.padded; inside = h.1 }
