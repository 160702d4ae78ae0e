-- `note` stores a part where none stood.
use Rattle.std.proofs.Common.{◌-◌, arith}
use Rattle.ssl_reader.specs.Noted.{found_parts}
use Rattle.ssl_reader.proofs.NoteLaws.{noted_before, found_beyond, found_again, found_first}
use Rattle.ssl_reader.proofs.note.Goals as goal

pub returns-then-tlv_type-lt33 : goal.returns-then-tlv_type-lt33
returns-then-tlv_type-lt33 c = let x = c.args in noted_before x.tlv_type x.value 0x21 (found_parts x.pieces.now) (omega arith)

pub returns-then-i-ge5 : goal.returns-then-i-ge5
returns-then-i-ge5 c = let x = c.args in found_beyond x.tlv_type x.value 0x21 x.pieces.now (omega arith)

pub returns-then-pieces-i-ne0 : goal.returns-then-pieces-i-ne0
returns-then-pieces-i-ne0 c =
    let x = c.args in found_again x.tlv_type x.value (x.tlv_type - 0x21) 0x21 x.pieces.now (omega arith) (omega arith) c.if-pieces-i-ne0.true

pub returns : goal.returns
returns c =
    let x = c.args in found_first x.tlv_type x.value c.requires (x.tlv_type - 0x21) 0x21 x.pieces.now (omega arith) (omega arith) c.if-pieces-i-ne0.false
