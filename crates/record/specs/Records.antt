-- What a record holds (document 01, "The record"; document 02, K6).
use Rattle.std.specs.Prelude.{◌≡◌, List, [], ◌++◌, ℕ, ◌-◌, ◌<◌, length, drop, replicate}
use Rattle.exact.specs.Claim.{AllBytes}
use Rattle.record.specs.declared.Kind.{Kind}
use Rattle.record.specs.declared.Kind.TheVariants.{Local, Unspecified, Ip4, Ip6, Unix}
use Rattle.record.specs.declared.Checksum.{Checksum}
use Rattle.record.specs.declared.Checksum.TheVariants.{Absent}
use Rattle.record.specs.declared.Record.{Record}
use Rattle.record.specs.Kinds.{address_length}

-- "Addresses of 4, 16 or 108 bytes are held by value": an address as a record holds it, with zeros up to 108 bytes
abbrev pub held : List ℕ → List ℕ
held a = a ++ replicate (108 - length a) 0

-- the record of these parts
abbrev pub record_with : Kind → List ℕ → List ℕ → ℕ → ℕ → Checksum → Record
record_with k source destination p q c =
    record { kind = k; source = source; destination = destination; source_port = p; destination_port = q; checksum = c }

-- the record of a kind, with its addresses and ports, as "the plain reader, whose state is always absent" gives it (document 02, K6)
abbrev pub record_of : Kind → List ℕ → List ℕ → ℕ → ℕ → Record
record_of k from to p q = record_with k (held from) (held to) p q Absent

-- the record with this state
abbrev pub with_checksum : Checksum → Record → Record
with_checksum c r = record_with r.kind r.source r.destination r.source_port r.destination_port c

-- a record of a kind without addresses
abbrev pub bare : Kind → Record
bare k = record_of k [] [] 0 0

-- "UNIX has no ports": the ports of a kind that has none are zero
abbrev pub PortFits : Kind → ℕ → Type 0
PortFits Local p = p ≡ 0
PortFits Unspecified p = p ≡ 0
PortFits (Ip4 t) p = p < 65536
PortFits (Ip6 t) p = p < 65536
PortFits (Unix t) p = p ≡ 0

-- matched "beside local or unspecified" is 11 "always" (document 02, K6)
abbrev pub StateFits : Kind → Checksum → Type 0
StateFits Local c = c ≡ Absent
StateFits Unspecified c = c ≡ Absent
StateFits (Ip4 t) c = Unit {0}
StateFits (Ip6 t) c = Unit {0}
StateFits (Unix t) c = Unit {0}

-- "Address bytes and ports that a kind does not use are zero", and the state may stand beside the kind
pub record Clean (r : Record) : Type 0 where
  pub source : drop (address_length r.kind) r.source ≡ replicate (108 - address_length r.kind) 0
  pub destination : drop (address_length r.kind) r.destination ≡ replicate (108 - address_length r.kind) 0
  pub source_port : PortFits r.kind r.source_port
  pub destination_port : PortFits r.kind r.destination_port
  pub checksum : StateFits r.kind r.checksum

-- "Without it" (the request for a checksum) and "in version 1 … matched is 11" (document 02, K6; of stored forms K7 says more)
pub record Plain (r : Record) : Type 0 where
  pub clean : Clean r
  pub absent : r.checksum ≡ Absent

-- what holds of every record in memory: two arrays of 108 bytes, and ports of 16 bits
pub record Sized (r : Record) : Type 0 where
  pub source : length r.source ≡ 108
  pub destination : length r.destination ≡ 108
  pub source_bytes : AllBytes r.source
  pub destination_bytes : AllBytes r.destination
  pub source_port : r.source_port < 65536
  pub destination_port : r.destination_port < 65536
