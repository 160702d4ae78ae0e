-- The papers' table of byte 13, of the address block's length and of the kind words, as computed tests of the definitions.
use Rattle.std.specs.Prelude.{List, [], ◌∷◌}
use Rattle.record.specs.declared.Transport.TheVariants.{Stream, Datagram}
use Rattle.record.specs.declared.Kind.{Kind}
use Rattle.record.specs.declared.Kind.TheVariants.{Local, Unspecified, Ip4, Ip6, Unix}
use Rattle.record.specs.Tabulated.{Row}

-- "00; 11, 12; 21, 22; 31, 32" (document 01), "01, 02, 10, 20 and 30" (document 02, K1)
abbrev pub table : List Row
table =
    record { byte = 0x00; kind = Unspecified }
    ∷ record { byte = 0x01; kind = Unspecified }
    ∷ record { byte = 0x02; kind = Unspecified }
    ∷ record { byte = 0x10; kind = Unspecified }
    ∷ record { byte = 0x11; kind = Ip4 Stream }
    ∷ record { byte = 0x12; kind = Ip4 Datagram }
    ∷ record { byte = 0x20; kind = Unspecified }
    ∷ record { byte = 0x21; kind = Ip6 Stream }
    ∷ record { byte = 0x22; kind = Ip6 Datagram }
    ∷ record { byte = 0x30; kind = Unspecified }
    ∷ record { byte = 0x31; kind = Unix Stream }
    ∷ record { byte = 0x32; kind = Unix Datagram } ∷ []

abbrev pub kinds : List Kind
kinds = Local ∷ Unspecified ∷ Ip4 Stream ∷ Ip4 Datagram ∷ Ip6 Stream ∷ Ip6 Datagram ∷ Unix Stream ∷ Unix Datagram ∷ []
