-- The kind codes of the stored form and of C connections (document 01, "Stored form, version 1").
use Rattle.std.specs.Prelude.{ℕ, eqb, Option, Some, None}
use Rattle.exact.specs.Pick.{pick}
use Rattle.record.specs.declared.Transport.TheVariants.{Stream, Datagram}
use Rattle.record.specs.declared.Kind.{Kind}
use Rattle.record.specs.declared.Kind.TheVariants.{Local, Unspecified, Ip4, Ip6, Unix}

-- "a kind code (00 local, 01 unspecified, else as byte 13)"
abbrev pub code_of : Kind → ℕ
code_of Local = 0x00
code_of Unspecified = 0x01
code_of (Ip4 Stream) = 0x11
code_of (Ip4 Datagram) = 0x12
code_of (Ip6 Stream) = 0x21
code_of (Ip6 Datagram) = 0x22
code_of (Unix Stream) = 0x31
code_of (Unix Datagram) = 0x32

-- the kind that a code is of: these eight are codes, whatever else byte 13 may be
abbrev pub kind_of : ℕ → Option Kind
kind_of c =
    pick (eqb c 0x00) (Some Local)
    (pick (eqb c 0x01) (Some Unspecified)
    (pick (eqb c 0x11) (Some (Ip4 Stream))
    (pick (eqb c 0x12) (Some (Ip4 Datagram))
    (pick (eqb c 0x21) (Some (Ip6 Stream))
    (pick (eqb c 0x22) (Some (Ip6 Datagram))
    (pick (eqb c 0x31) (Some (Unix Stream))
    (pick (eqb c 0x32) (Some (Unix Datagram)) None)))))))
