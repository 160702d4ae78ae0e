-- What the families of a TCP line differ in, and the bytes of an address as a caller holds them.
use Rattle.std.specs.Prelude.{◌≡◌, List, ℕ, ◌+◌, take}
use Rattle.exact.specs.Claim.{Verdict, accepted, more, refused}
use Rattle.exact.specs.declared.Scan.{Scan}
use Rattle.exact.specs.declared.Scan.TheVariants.{Accepted, More, Refused}
use Rattle.record.specs.declared.Transport.TheVariants.{Stream}
use Rattle.record.specs.declared.Kind.{Kind}
use Rattle.record.specs.declared.Kind.TheVariants.{Ip4, Ip6}
use Rattle.record.specs.Kinds.{address_length}
use Rattle.record.specs.Records.{held}
use Rattle.fields.specs.LineFields.{AddressParser}
use Rattle.fields.specs.Exactness.{address4, address6}
use Rattle.line_address.specs.declared.Inet.{Inet}
use Rattle.line_address.specs.declared.Inet.TheVariants.{V4, V6}

abbrev pub tcp_kind : Inet → Kind
tcp_kind V4 = Ip4 Stream
tcp_kind V6 = Ip6 Stream

abbrev pub width : Inet → ℕ
width inet = address_length (tcp_kind inet)

abbrev pub field : Inet → AddressParser
field V4 = address4
field V6 = address6

-- how many bytes the shortest address has with the space that ends it: "0.0.0.0 " or ":: "
abbrev pub shortest_address : Inet → ℕ
shortest_address V4 = 8
shortest_address V6 = 3

-- the bytes of an address, in the first n of an array; m is what is asked behind it
abbrev pub told_bytes : (n m : ℕ) → Scan (List ℕ) → Verdict (List ℕ)
told_bytes n m (Accepted bytes size) = accepted (take n bytes) size
told_bytes n m (More least) = more (least + m)
told_bytes n m (Refused p) = refused 3 p

-- an address as a caller holds it: sixteen bytes, with zeros behind it
abbrev pub padded : List ℕ → List ℕ
padded address = take 16 (held address)

-- the bytes behind an accepted address are 0
abbrev pub Padded : ℕ → Scan (List ℕ) → Type 0
Padded n (Accepted bytes size) = bytes ≡ padded (take n bytes)
Padded n (More least) = Unit {0}
Padded n (Refused p) = Unit {0}
