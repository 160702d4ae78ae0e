-- The table is right at both halves of the byte. Its rule is tested at each entry, which is computed.
use Rattle.std.proofs.Common.{refl, ◌%◌, arith, bit_xor}
use Rattle.crc.specs.Crc.{bit, bits}
use Rattle.crc.specs.Table.{Right}
use Rattle.crc.specs.declared.table.TheConstants.{TABLE}
use Rattle.crc.proofs.Tested.{tested, by_halves}
use Rattle.crc.proofs.entry.Goals as goal

the_table : Right TABLE
unfolding bits bit
the_table = tested TABLE refl

pub returns : goal.returns
returns c =
    let x = c.args in
    by_halves TABLE the_table x.row (bit_xor x.x x.b % 256) c.requires (omega arith)
