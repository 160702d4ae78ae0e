-- The version 1 line of a record.
use Rattle.std.specs.Prelude.{List, [], ◌++◌, ℕ}
use Rattle.exact.specs.Ascii.{ascii}
use Rattle.record.specs.declared.Transport.TheVariants.{Stream, Datagram}
use Rattle.record.specs.declared.Kind.{Kind}
use Rattle.record.specs.declared.Kind.TheVariants.{Local, Unspecified, Ip4, Ip6, Unix}
use Rattle.record.specs.declared.Record.{Record}
use Rattle.draft.specs.Numeral.{decimal_text}
use Rattle.address_text.specs.declared.Inet.{Inet}
use Rattle.address_text.specs.declared.Inet.TheVariants.{V4, V6}
use Rattle.address_text.specs.Addresses.{ip4_text, ip6_text}

abbrev pub family_word : Inet → List ℕ
family_word V4 = ascii "TCP4"
family_word V6 = ascii "TCP6"

-- "space, source address, space, destination address, space, source port, space, destination port, CR LF"
abbrev pub tcp_text : (word : List ℕ) (address : List ℕ → List ℕ) → Record → List ℕ
tcp_text word address r =
    ascii "PROXY " ++ word ++ ascii " " ++ address r.source ++ ascii " " ++ address r.destination ++ ascii " "
    ++ decimal_text r.source_port ++ ascii " " ++ decimal_text r.destination_port ++ ascii "\r\n"

-- "the last as "PROXY UNKNOWN" CR LF"; nothing for a kind without a form
abbrev pub line_text : Kind → Record → List ℕ
line_text Local r = []
line_text Unspecified r = ascii "PROXY UNKNOWN\r\n"
line_text (Ip4 Stream) r = tcp_text (ascii "TCP4") ip4_text r
line_text (Ip4 Datagram) r = []
line_text (Ip6 Stream) r = tcp_text (ascii "TCP6") ip6_text r
line_text (Ip6 Datagram) r = []
line_text (Unix t) r = []

unfoldable pub written_line : Record → List ℕ
written_line r = line_text r.kind r
