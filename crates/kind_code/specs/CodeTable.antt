-- Document 01's kind codes, as computed tests of the definitions.
use Rattle.std.specs.Prelude.{List, [], ◌∷◌}
use Rattle.record.specs.declared.Transport.TheVariants.{Stream, Datagram}
use Rattle.record.specs.declared.Kind.TheVariants.{Local, Unspecified, Ip4, Ip6, Unix}
use Rattle.record.specs.Tabulated.{Row}

-- "00 local, 01 unspecified, else as byte 13"
abbrev pub table : List Row
table =
    record { byte = 0x00; kind = Local }
    ∷ record { byte = 0x01; kind = Unspecified }
    ∷ record { byte = 0x11; kind = Ip4 Stream }
    ∷ record { byte = 0x12; kind = Ip4 Datagram }
    ∷ record { byte = 0x21; kind = Ip6 Stream }
    ∷ record { byte = 0x22; kind = Ip6 Datagram }
    ∷ record { byte = 0x31; kind = Unix Stream }
    ∷ record { byte = 0x32; kind = Unix Datagram } ∷ []
