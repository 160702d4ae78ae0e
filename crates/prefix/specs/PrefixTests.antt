-- The same as tests, each with the law that it says what it is named for.
use Rattle.std.specs.Prelude.{Bool, ◌&&◌, List, ℕ, eqb, leb}
use Rattle.exact.specs.Pick.{pick}
use Rattle.address_bits.specs.Bits.{same_bits, clear_bits}
use Rattle.prefix.specs.Prefix.{Prefix}

-- the bits that a family has, with its number
abbrev pub bits_fit : (family bits : ℕ) → Bool
bits_fit family bits = pick (eqb family 4) (leb bits 32) (eqb family 6 && leb bits 128)

abbrev pub in_range : Prefix → Bool
in_range p = bits_fit p.family p.bits && leb p.level 3

abbrev pub good_prefix : Prefix → Bool
good_prefix p = in_range p && clear_bits p.bits p.address

abbrev pub same_prefix : Prefix → Prefix → Bool
same_prefix p q = eqb p.family q.family && (eqb p.bits q.bits && same_bits 128 p.address q.address)

abbrev pub matches : Prefix → (family : ℕ) → List ℕ → Bool
matches p family source = eqb p.family family && same_bits p.bits source p.address
