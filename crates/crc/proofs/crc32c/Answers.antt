-- The complement of what `crc_part` answers.
use Rattle.std.proofs.Common.{ap, ℕ, bit_xor}
use Rattle.crc.specs.Crc.{ones, checksum}
use Rattle.crc.proofs.crc32c.Goals as goal

pub returns : goal.returns
unfolding checksum
returns c = ap (λ (x : ℕ). bit_xor x ones) c.crc_part.ensures
