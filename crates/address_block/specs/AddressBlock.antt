-- The address block of a record, and the record of an address block.
use Rattle.std.specs.Prelude.{List, ◌++◌, ℕ, ◌+◌, take, drop}
use Rattle.exact.specs.Network.{network, number_at}
use Rattle.record.specs.declared.Kind.{Kind}
use Rattle.record.specs.declared.Kind.TheVariants.{Local, Unspecified, Ip4, Ip6, Unix}
use Rattle.record.specs.declared.Record.{Record}
use Rattle.record.specs.Kinds.{address_length, port_length}
use Rattle.record.specs.Records.{record_of}

-- "The address block is source, destination, source port, destination port, in network order"; "UNIX has no ports"
abbrev pub address_block : Record → List ℕ
address_block r =
    take (address_length r.kind) r.source
    ++ take (address_length r.kind) r.destination
    ++ take (port_length r.kind) (network r.source_port)
    ++ take (port_length r.kind) (network r.destination_port)

-- "UNIX has no ports"
abbrev pub port_at : Kind → List ℕ → ℕ → ℕ
port_at Local b i = 0
port_at Unspecified b i = 0
port_at (Ip4 t) b i = number_at b i
port_at (Ip6 t) b i = number_at b i
port_at (Unix t) b i = 0

-- the record that an address block of this kind gives
abbrev pub block_record : Kind → List ℕ → Record
block_record k b =
    record_of k (take (address_length k) b) (take (address_length k) (drop (address_length k) b))
    (port_at k b (address_length k + address_length k)) (port_at k b (address_length k + address_length k + port_length k))
