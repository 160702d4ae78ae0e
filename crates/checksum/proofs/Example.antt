-- Lemmas on what specs/Example.antt defines.
use Rattle.std.specs.Prelude.{◌≡◌, refl, [], ◌∷◌}
use Rattle.exact.specs.Claim.{accepted}
use Rattle.crc.specs.Crc.{bit, bits, byte, register, checksum}
use Rattle.record.specs.declared.Transport.TheVariants.{Stream}
use Rattle.record.specs.declared.Kind.TheVariants.{Ip4}
use Rattle.record.specs.declared.Checksum.TheVariants.{Matched}
use Rattle.record.specs.Records.{record_of, with_checksum}
use Rattle.fields.specs.BlockFields.{blocked}
use Rattle.checksum.specs.Checked.{judged, refuses}
use Rattle.checksum.specs.State.{checked_verdict}
use Rattle.checksum.specs.Example.{area, header}

-- port 56324
pub as_sent : checked_verdict (header 0xDC 0x04)
    ≡ judged (accepted (blocked (with_checksum Matched (record_of (Ip4 Stream) (192 ∷ 168 ∷ 0 ∷ 1 ∷ []) (192 ∷ 168 ∷ 0 ∷ 11 ∷ []) 56324 443)) area) 40)
unfolding bit bits byte register checksum
as_sent = refl

-- port 56325
pub damaged : checked_verdict (header 0xDC 0x05) ≡ refuses 23
unfolding bit bits byte register checksum
damaged = refl
