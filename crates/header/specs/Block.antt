-- The version 2 whole header (document 01, "The binary block").
use Rattle.std.specs.Prelude.{◌≡◌, List, [], ◌∷◌, ◌++◌, ◌⊎◌, ℕ, ◌<◌, length, Some}
use Rattle.exact.specs.Claim.{AllBytes}
use Rattle.exact.specs.Network.{network}
use Rattle.tlv.specs.Tlv.{WellFormed}
use Rattle.record.specs.declared.Kind.{Kind}
use Rattle.record.specs.declared.Kind.TheVariants.{Local, Unspecified, Ip4, Ip6, Unix}
use Rattle.record.specs.declared.Record.{Record}
use Rattle.record.specs.Kinds.{family, address_length}
use Rattle.record.specs.Records.{record_of, bare, PortFits}

-- "Signature 0D 0A 0D 0A 00 0D 0A 51 55 49 54 0A"
abbrev pub signature : List ℕ
signature =
    0x0D ∷ 0x0A ∷ 0x0D ∷ 0x0A ∷ 0x00 ∷ 0x0D ∷ 0x0A ∷ 0x51 ∷ 0x55 ∷ 0x49 ∷ 0x54 ∷ 0x0A ∷ []

-- "Byte 12: high half 2, low half 0 (LOCAL) or 1 (PROXY)"
abbrev pub LOCAL : ℕ
LOCAL = 0x20

abbrev pub PROXY : ℕ
PROXY = 0x21

-- "Bytes 14 and 15: length L, high byte first; the header has 16 + L bytes"
pub record Framed (command byte13 : ℕ) (block f : List ℕ) : Type 0 where
  pub split : f ≡ signature ++ command ∷ byte13 ∷ network (length block) ++ block
  pub small : length block < 65536

-- "LOCAL: any byte 13, any L, the block is not looked at; record local"
pub record LocalBlock (f : List ℕ) : Type 0 where
  pub byte13 : ℕ
  pub block : List ℕ
  pub framed : Framed LOCAL byte13 block f
  pub byte : byte13 < 256
  pub bytes : AllBytes block

-- "00: unspecified, block not looked at"; "01, 02, 10, 20 and 30 read as unspecified with the block not looked at" (document 02, K1)
pub record UnspecifiedBlock (f : List ℕ) : Type 0 where
  pub byte13 : ℕ
  pub block : List ℕ
  pub framed : Framed PROXY byte13 block f
  pub byte : byte13 < 256
  pub table : family byte13 ≡ Some Unspecified
  pub bytes : AllBytes block

-- the kinds that have addresses
abbrev pub HasAddresses : Kind → Type 0
HasAddresses Local = ⊥
HasAddresses Unspecified = ⊥
HasAddresses (Ip4 t) = Unit {0}
HasAddresses (Ip6 t) = Unit {0}
HasAddresses (Unix t) = Unit {0}

-- "UNIX has no ports"
abbrev pub port_bytes : Kind → ℕ → List ℕ
port_bytes Local p = []
port_bytes Unspecified p = []
port_bytes (Ip4 t) p = network p
port_bytes (Ip6 t) p = network p
port_bytes (Unix t) p = []

-- "The address block is source, destination, source port, destination port, in network order"
pub record Addresses (kind : Kind) (block : List ℕ) (r : Record) : Type 0 where
  pub from : List ℕ
  pub to : List ℕ
  pub p : ℕ
  pub q : ℕ
  pub split : block ≡ from ++ to ++ port_bytes kind p ++ port_bytes kind q
  pub from_length : length from ≡ address_length kind
  pub to_length : length to ≡ address_length kind
  pub from_bytes : AllBytes from
  pub to_bytes : AllBytes to
  pub p_fits : PortFits kind p
  pub q_fits : PortFits kind q
  pub says : r ≡ record_of kind from to p q

-- "The rest of the block is TLVs; they fill it exactly"
pub record AddressBlock (f : List ℕ) (r : Record) (area : List ℕ) : Type 0 where
  pub kind : Kind
  pub byte13 : ℕ
  pub block : List ℕ
  pub framed : Framed PROXY byte13 (block ++ area) f
  pub byte : byte13 < 256
  pub table : family byte13 ≡ Some kind
  pub has : HasAddresses kind
  pub addresses : Addresses kind block r
  pub tlvs : WellFormed area

-- the TLV area "is empty for version 1, local, unspecified"
abbrev pub Block : List ℕ → Record → List ℕ → Type 0
Block f r area =
    (LocalBlock f × (r ≡ bare Local) × (area ≡ []))
    ⊎ ((UnspecifiedBlock f × (r ≡ bare Unspecified) × (area ≡ [])) ⊎ AddressBlock f r area)
