-- What the papers say of whole headers, proved of their definitions: how long they are, where bytes are refused, and which TLV area and record
-- a header has. The rules for the two length bytes of a TLV are in crate `tlv`, Rules.
use Rattle.std.specs.Prelude.{List, [], ◌∷◌, ◌++◌, ℕ, replicate}
use Rattle.exact.specs.Ascii.{ascii}
use Rattle.exact.specs.Network.{network, number_at}
use Rattle.record.specs.declared.Kind.{Kind}
use Rattle.record.specs.declared.Kind.TheVariants.{Local, Unspecified}
use Rattle.record.specs.Records.{record_of, bare}
use Rattle.header.specs.Block.{signature, LOCAL}
use Rattle.header.specs.Header.{Header}

-- ── the text line ──
-- what an UNKNOWN line says
abbrev pub unknown_header : Header
unknown_header = record { «record» = bare Unspecified; version = 1; area = [] }

-- both are reached, by the highest addresses and ports
abbrev pub highest : Kind → ℕ → Header
highest kind n =
    record { «record» = record_of kind (replicate n 255) (replicate n 255) 65535 65535; version = 1; area = [] }

abbrev pub highest4 : List ℕ
highest4 = ascii "PROXY TCP4 255.255.255.255 255.255.255.255 65535 65535\r\n"

abbrev pub highest6 : List ℕ
highest6 =
    ascii "PROXY TCP6 ffff:ffff:ffff:ffff:ffff:ffff:ffff:ffff ffff:ffff:ffff:ffff:ffff:ffff:ffff:ffff 65535 65535\r\n"

-- ── the binary block ──
-- "Bytes 14 and 15: length L, high byte first"
abbrev pub length_field : List ℕ → ℕ
length_field f = number_at f 14

-- what a header with an unspecified family says
abbrev pub unspecified_header : Header
unspecified_header = record { «record» = bare Unspecified; version = 2; area = [] }

-- ── both versions ──
abbrev pub local_zeros : ℕ → List ℕ
local_zeros n = signature ++ LOCAL ∷ 0 ∷ network n ++ replicate n 0

abbrev pub local_header : Header
local_header = record { «record» = bare Local; version = 2; area = [] }
