-- The version 1 whole header (document 01, "The text line").
use Rattle.std.specs.Prelude.{◌≡◌, List, [], ◌∷◌, ◌++◌, ◌⊎◌, ℕ, ◌-◌, length}
use Rattle.exact.specs.Ascii.{ascii}
use Rattle.exact.specs.Network.{network}
use Rattle.decimal.specs.Decimal.{Decimal}
use Rattle.ip4.specs.Ip4.{Address as Ip4Address}
use Rattle.line_end.specs.Line.{FirstEnd}
use Rattle.ip6.specs.Address.{Address as Ip6Text}
use Rattle.record.specs.declared.Transport.TheVariants.{Stream}
use Rattle.record.specs.declared.Kind.{Kind}
use Rattle.record.specs.declared.Kind.TheVariants.{Unspecified, Ip4, Ip6}
use Rattle.record.specs.declared.Record.{Record}
use Rattle.record.specs.Records.{record_of, bare}

-- the bytes of an address's groups
abbrev pub group_bytes : List ℕ → List ℕ
group_bytes [] = []
group_bytes (g ∷ gs) = network g ++ group_bytes gs

-- IPv6 text, with the sixteen bytes that it says
pub record Ip6Address (f address : List ℕ) : Type 0 where
  pub groups : List ℕ
  pub text : Ip6Text f groups
  pub value : address ≡ group_bytes groups

-- "space, source address, space, destination address, space, source port, space, destination port, CR LF"
pub record TcpLine (word : List ℕ) (kind : Kind) (Address : List ℕ → List ℕ → Type 0) (f : List ℕ) (r : Record) : Type 0 where
  pub source : List ℕ
  pub destination : List ℕ
  pub source_port : List ℕ
  pub destination_port : List ℕ
  pub split :
      f
      ≡ ascii "PROXY " ++ word ++ ascii " " ++ source ++ ascii " " ++ destination ++ ascii " " ++ source_port ++ ascii " "
      ++ destination_port ++ ascii "\r\n"
  pub from : List ℕ
  pub to : List ℕ
  pub p : ℕ
  pub q : ℕ
  pub whole_source : Address source from
  pub whole_destination : Address destination to
  pub whole_source_port : Decimal 65535 source_port p
  pub whole_destination_port : Decimal 65535 destination_port q
  pub says : r ≡ record_of kind from to p q

-- ""UNKNOWN": either CR LF at once, or one space and then anything up to CR LF. The record is unspecified. The whole line has at most 107 bytes"
pub record LongLine (f : List ℕ) : Type 0 where
  pub rest : List ℕ
  pub split : f ≡ ascii "PROXY UNKNOWN " ++ rest
  pub end : FirstEnd (107 - length (ascii "PROXY UNKNOWN ")) rest

abbrev pub UnknownLine : List ℕ → Record → Type 0
UnknownLine f r = ((f ≡ ascii "PROXY UNKNOWN\r\n") ⊎ LongLine f) × (r ≡ bare Unspecified)

-- "The record is IPv4 or IPv6 stream"
abbrev pub Line : List ℕ → Record → Type 0
Line f r =
    UnknownLine f r
    ⊎ (TcpLine (ascii "TCP4") (Ip4 Stream) Ip4Address f r ⊎ TcpLine (ascii "TCP6") (Ip6 Stream) Ip6Address f r)
