-- Lemmas on what specs/Vectors.antt defines.
use Rattle.std.specs.Prelude.{◌≡◌, refl, [], ◌∷◌, replicate}
use Rattle.crc.specs.Crc.{polynomial, bit, bits, byte, register, checksum, stored}
use Rattle.crc.specs.Vectors.{down, mirror, up}

pub mirrored : mirror 32 0x1EDC_6F41 ≡ polynomial
unfolding mirror
mirrored = refl

-- "the nine bytes "123456789" give E3 06 92 83"
pub nine : stored (checksum (49 ∷ 50 ∷ 51 ∷ 52 ∷ 53 ∷ 54 ∷ 55 ∷ 56 ∷ 57 ∷ [])) ≡ 0xE3 ∷ 0x06 ∷ 0x92 ∷ 0x83 ∷ []
unfolding bit bits byte register checksum
nine = refl

pub empty : stored (checksum []) ≡ 0 ∷ 0 ∷ 0 ∷ 0 ∷ []
unfolding register checksum
empty = refl

pub zeros : stored (checksum (replicate 32 0)) ≡ 0x8A ∷ 0x91 ∷ 0x36 ∷ 0xAA ∷ []
unfolding bit bits byte register checksum
zeros = refl

pub ones : stored (checksum (replicate 32 0xFF)) ≡ 0x62 ∷ 0xA8 ∷ 0xAB ∷ 0x43 ∷ []
unfolding bit bits byte register checksum
ones = refl

pub rising : stored (checksum (up 32)) ≡ 0x46 ∷ 0xDD ∷ 0x79 ∷ 0x4E ∷ []
unfolding bit bits byte register checksum
rising = refl

pub falling : stored (checksum (down 32)) ≡ 0x11 ∷ 0x3F ∷ 0xDB ∷ 0x5C ∷ []
unfolding bit bits byte register checksum
falling = refl
