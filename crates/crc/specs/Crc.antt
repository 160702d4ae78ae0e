-- CRC32C as RFC 4960 appendix B defines it, bit by bit. Reflected: the first bit of a byte is its lowest, and the register moves right.
use Rattle.std.specs.Prelude.{List, [], ◌∷◌, ◌++◌, ℕ, zero, suc, ◌+◌, ◌*◌, ◌/◌, ◌%◌, take, drop, replicate}
use Rattle.std.specs.Int.Bits.{bit_xor}
use Rattle.network32.specs.Network32.{network32}

-- the polynomial 0x1EDC6F41, its 32 bits in the other order
abbrev pub polynomial : ℕ
polynomial = 0x82F6_3B78

-- one bit: the register moves right by one, and takes the polynomial where the bit that left it was set
unfoldable pub bit : ℕ → ℕ
bit r = bit_xor (r / 2) (r % 2 * polynomial)

unfoldable pub bits : ℕ → ℕ → ℕ
unfolding bit
bits zero r = r
bits (suc n) r = bits n (bit r)

-- one byte: it is put onto the low end of the register, and eight bits follow
unfoldable pub byte : ℕ → ℕ → ℕ
unfolding bits
byte r b = bits 8 (bit_xor r b)

-- the register after the bytes, from what it was before them
unfoldable pub register : ℕ → List ℕ → ℕ
unfolding byte
register r [] = r
register r (b ∷ bs) = register (byte r b) bs

abbrev pub ones : ℕ
ones = 0xFFFF_FFFF

-- the register is all ones at the start, and its complement at the end is the checksum
unfoldable pub checksum : List ℕ → ℕ
unfolding register
checksum bs = bit_xor (register ones bs) ones

-- "the result stored in network order"
abbrev pub stored : ℕ → List ℕ
stored c = network32 c

-- "the four value bytes of TLV 0x03 taken as zero": the four at this place
unfoldable pub cleared : ℕ → List ℕ → List ℕ
cleared at bs = take at bs ++ replicate 4 0 ++ drop (at + 4) bs
