-- The numbers, lengths and words of the kinds (document 01, "The binary block" and "The program"; document 02, K1).
use Rattle.std.specs.Prelude.{List, ◌++◌, ℕ, ◌+◌, eqb, Option, Some, None}
use Rattle.exact.specs.Pick.{pick}
use Rattle.exact.specs.Ascii.{ascii}
use Rattle.record.specs.declared.Transport.{Transport}
use Rattle.record.specs.declared.Transport.TheVariants.{Stream, Datagram}
use Rattle.record.specs.declared.Kind.{Kind}
use Rattle.record.specs.declared.Kind.TheVariants.{Local, Unspecified, Ip4, Ip6, Unix}

-- "PROXY accepts byte 13 as follows": 00; 11, 12; 21, 22; 31, 32 (document 01). "Under PROXY, 01, 02, 10, 20 and 30 read as unspecified with the
-- block not looked at and A = 0. Refusal 7 is for the rest only" (document 02, K1)
abbrev pub family : ℕ → Option Kind
family c =
    pick (eqb c 0x00) (Some Unspecified)
    (pick (eqb c 0x01) (Some Unspecified)
    (pick (eqb c 0x02) (Some Unspecified)
    (pick (eqb c 0x10) (Some Unspecified)
    (pick (eqb c 0x11) (Some (Ip4 Stream))
    (pick (eqb c 0x12) (Some (Ip4 Datagram))
    (pick (eqb c 0x20) (Some Unspecified)
    (pick (eqb c 0x21) (Some (Ip6 Stream))
    (pick (eqb c 0x22) (Some (Ip6 Datagram))
    (pick (eqb c 0x30) (Some Unspecified)
    (pick (eqb c 0x31) (Some (Unix Stream))
    (pick (eqb c 0x32) (Some (Unix Datagram)) None)))))))))))

-- byte 13 of a kind, as it is written: unspecified and local as 00 ("The writer keeps writing 00", document 02, K1)
abbrev pub byte_of : Kind → ℕ
byte_of Local = 0x00
byte_of Unspecified = 0x00
byte_of (Ip4 Stream) = 0x11
byte_of (Ip4 Datagram) = 0x12
byte_of (Ip6 Stream) = 0x21
byte_of (Ip6 Datagram) = 0x22
byte_of (Unix Stream) = 0x31
byte_of (Unix Datagram) = 0x32

-- "Addresses of 4, 16 or 108 bytes"
abbrev pub address_length : Kind → ℕ
address_length Local = 0
address_length Unspecified = 0
address_length (Ip4 t) = 4
address_length (Ip6 t) = 16
address_length (Unix t) = 108

-- "UNIX has no ports": the bytes of a port in the address block
abbrev pub port_length : Kind → ℕ
port_length Local = 0
port_length Unspecified = 0
port_length (Ip4 t) = 2
port_length (Ip6 t) = 2
port_length (Unix t) = 0

-- "Address block A": 0, 12, 36, 216
abbrev pub block_length : Kind → ℕ
block_length k = address_length k + address_length k + port_length k + port_length k

-- "Kind words: local, unspecified, ip4, ip6, unix, the last three with -stream or -datagram"
abbrev pub transport_word : Transport → List ℕ
transport_word Stream = ascii "-stream"
transport_word Datagram = ascii "-datagram"

abbrev pub kind_word : Kind → List ℕ
kind_word Local = ascii "local"
kind_word Unspecified = ascii "unspecified"
kind_word (Ip4 t) = ascii "ip4" ++ transport_word t
kind_word (Ip6 t) = ascii "ip6" ++ transport_word t
kind_word (Unix t) = ascii "unix" ++ transport_word t
