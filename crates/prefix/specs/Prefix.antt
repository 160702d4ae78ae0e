-- An address prefix, as a row of a table says it.
use Rattle.std.specs.Prelude.{◌≡◌, List, ◌⊎◌, ℕ, ◌≤◌, get_or, take, drop}
use Rattle.address_bits.specs.Bits.{SameBits, ClearBits}

-- "a family, bits (0 to 32 or 0 to 128), address and level 0 to 3"
pub record Prefix : Type 0 where
  pub family : ℕ
  pub bits : ℕ
  pub level : ℕ
  pub address : List ℕ

-- the prefix of a row: family, bits, level, then 16 address bytes, "IPv4 in the first four"
abbrev pub row_of : List ℕ → Prefix
row_of row = record { family = get_or row 0 0; bits = get_or row 1 0; level = get_or row 2 0; address = take 16 (drop 3 row) }

-- no "number out of range": the family is 4 or 6
abbrev pub InRange : Prefix → Type 0
InRange p = (((p.family ≡ 4) × (p.bits ≤ 32)) ⊎ ((p.family ≡ 6) × (p.bits ≤ 128))) × (p.level ≤ 3)

-- no "bit beyond the prefix set (for IPv4 the twelve bytes behind too)"
abbrev pub Clear : Prefix → Type 0
Clear p = ClearBits p.bits p.address

-- "same family, bits and address": an address is its 128 bits
pub record SamePrefix (p q : Prefix) : Type 0 where
  pub family : p.family ≡ q.family
  pub bits : p.bits ≡ q.bits
  pub address : SameBits 128 p.address q.address

-- a source of this family lies in the prefix: "the first b bits are equal"
pub record Matches (p : Prefix) (family : ℕ) (source : List ℕ) : Type 0 where
  pub of_family : p.family ≡ family
  pub first_bits : SameBits p.bits source p.address
