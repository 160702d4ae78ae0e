-- How long the version 1 lines are that are written (document 01, "The text line"; document 02, K3: "written lengths (…) follow").
use Rattle.std.specs.Prelude.{◌≡◌, refl, List, ℕ, ◌≤◌, length, take, replicate}
use Rattle.std.proofs.Common.{arith, length-append, length-take-le}
use Rattle.exact.specs.Ascii.{ascii}
use Rattle.record.specs.declared.Transport.TheVariants.{Stream}
use Rattle.record.specs.declared.Kind.TheVariants.{Unspecified, Ip4, Ip6}
use Rattle.record.specs.declared.Record.{Record}
use Rattle.record.specs.Records.{record_of}
use Rattle.fields.proofs.Facts.{longest_tcp4, longest_tcp6}
use Rattle.fields.specs.Facts.{highest6}
use Rattle.draft.specs.Numeral.{numeral, decimal_text}
use Rattle.draft.proofs.NumeralLaws.{numeral_plain}
use Rattle.address_text.specs.Addresses.{groups_text, groups_of, ip6_text}
use Rattle.address_text.proofs.AddressLaws.{groups_count, plain_some}
use Rattle.address_text.proofs.Form.{text_least}
use Rattle.line_text.specs.LineText.{written_line}
use Rattle.line_writer.specs.Written.{CarriedByLine}
use Rattle.line_writer.proofs.LineLaws.{tcp4_line, tcp6_line}

-- "Longest TCP4 line 56 bytes, TCP6 104"
pub longest4 : (r : Record) → CarriedByLine r → r.kind ≡ Ip4 Stream → length (written_line r) ≤ 56
unfolding written_line
longest4 r w kind = rw kind (longest_tcp4 _ r (tcp4_line r kind w.sized w.plain))

pub longest6 : (r : Record) → CarriedByLine r → r.kind ≡ Ip6 Stream → length (written_line r) ≤ 104
unfolding written_line
longest6 r w kind = rw kind (longest_tcp6 _ r (tcp6_line r kind w.sized w.plain))

address_least : (held : List ℕ) → length held ≡ 108 → 2 ≤ length (ip6_text held)
address_least held size = text_least (groups_of (take 16 held)) (groups_count 8 (take 16 held) (length-take-le 16 held (omega arith)))

decimal_least : (n : ℕ) → 1 ≤ length (decimal_text n)
decimal_least n = plain_some (decimal_text n) (numeral_plain 10 (omega arith) n)

-- the shortest TCP6 line: 6 + 4 + 1 + 2 + 1 + 2 + 1 + 1 + 1 + 1 + 2 = 22
pub shortest6 : (r : Record) → CarriedByLine r → r.kind ≡ Ip6 Stream → 22 ≤ length (written_line r)
unfolding written_line
shortest6 r w kind =
    let source = address_least r.source w.sized.source in
    let destination = address_least r.destination w.sized.destination in
    let from = decimal_least r.source_port in
    let to = decimal_least r.destination_port in
    rw kind (simp length-append (omega arith))

-- both are reached
pub longest6_reached : written_line (record_of (Ip6 Stream) (replicate 16 255) (replicate 16 255) 65535 65535) ≡ highest6
unfolding written_line groups_text numeral
longest6_reached = refl

pub shortest6_reached : written_line (record_of (Ip6 Stream) (replicate 16 0) (replicate 16 0) 0 0) ≡ ascii "PROXY TCP6 :: :: 0 0\r\n"
unfolding written_line groups_text numeral
shortest6_reached = refl

-- an UNKNOWN line
pub unknown_length : (r : Record) → r.kind ≡ Unspecified → length (written_line r) ≡ 15
unfolding written_line
unknown_length r kind = rw kind
