-- The line that is written for a record that version 1 can carry is a whole line that says it, and fits a draft.
use Rattle.std.specs.Prelude.{◌≡◌, refl, true, List, [], ℕ, ◌≤◌, length, take}
use Rattle.std.proofs.Common.{sym, ap, ap₂, ◌∙◌, subst, inl, inr, arith, length-take-le}
use Rattle.exact.specs.Ascii.{ascii}
use Rattle.exact.specs.Claim.{AllBytes}
use Rattle.exact.proofs.Parser.{bytes_take}
use Rattle.ip4.specs.Ip4.{Address as Ip4Address}
use Rattle.record.specs.declared.Transport.TheVariants.{Stream, Datagram}
use Rattle.record.specs.declared.Kind.{Kind}
use Rattle.record.specs.declared.Kind.TheVariants.{Local, Unspecified, Ip4, Ip6, Unix}
use Rattle.record.specs.declared.Record.{Record}
use Rattle.record.specs.Kinds.{address_length}
use Rattle.record.specs.Records.{record_of, bare, PortFits, Plain, Sized}
use Rattle.address_block.proofs.AddressBlockLaws.{address_fits, made_again}
use Rattle.header.specs.Line.{TcpLine, Ip6Address, Line}
use Rattle.fields.proofs.Facts.{longest_tcp4, longest_tcp6}
use Rattle.draft.proofs.Decimals.{decimal_text_lem}
use Rattle.address_text.specs.Addresses.{octets_text, groups_text, groups_of}
use Rattle.line_text.specs.LineText.{tcp_text, line_text, written_line}
use Rattle.line_writer.specs.Written.{has_form}
use Rattle.address_text.proofs.Texts.{octets_text_lem, ip6_text}

-- the address at the front of an array
module _ (n : ℕ) (fits : n ≤ 108) (a : List ℕ) (size : length a ≡ 108) where
  front_size : length (take n a) ≡ n
  front_size = length-take-le n a (omega arith)

module _ (word : List ℕ) (k : Kind) (Address : List ℕ → List ℕ → Type 0) (text : List ℕ → List ℕ)
    (says : (a : List ℕ) → length a ≡ address_length k → AllBytes a → Address (text a) a)
  where
    -- the text of the address that an array holds
    abbrev address : List ℕ → List ℕ
    address a = text (take (address_length k) a)

    front_says : (a : List ℕ) → length a ≡ 108 → AllBytes a → Address (address a) (take (address_length k) a)
    front_says a size small =
        let fits = address_fits k in
        says (take (address_length k) a) (front_size (address_length k) fits a size) (bytes_take (address_length k) a small)

    -- the record that the line of a record says: what the kind does not use is left out
    abbrev spoken : Record → Record
    spoken r = record_of k (take (address_length k) r.source) (take (address_length k) r.destination) r.source_port r.destination_port

    tcp_spoken : (r x : Record) → Sized r → x ≡ spoken r → TcpLine word k Address (tcp_text word address r) x
    tcp_spoken r x sized e =
        let p = sized.source_port in
        let q = sized.destination_port in
        record {
          source = address r.source;
          destination = address r.destination;
          source_port = _;
          destination_port = _;
          split = refl;
          from = take (address_length k) r.source;
          to = take (address_length k) r.destination;
          p = r.source_port;
          q = r.destination_port;
          whole_source = front_says r.source sized.source sized.source_bytes;
          whole_destination = front_says r.destination sized.destination sized.destination_bytes;
          whole_source_port = decimal_text_lem 65535 r.source_port (omega arith);
          whole_destination_port = decimal_text_lem 65535 r.destination_port (omega arith);
          says = e;
        }

    tcp_line : (r : Record) → r.kind ≡ k → Sized r → Plain r → TcpLine word k Address (tcp_text word address r) r
    tcp_line r kind sized plain =
        tcp_spoken r r sized
        (sym (made_again r sized plain)
        ∙ ap (λ (j : Kind). record_of j (take (address_length j) r.source) (take (address_length j) r.destination) r.source_port r.destination_port) kind)

bare_record : (r : Record) → r.kind ≡ Unspecified → Sized r → Plain r → r ≡ bare Unspecified
bare_record r kind sized plain =
    let k : Kind → Type 0 = λ (j : Kind). PortFits j r.source_port × PortFits j r.destination_port in
    let ports = subst k kind (plain.clean.source_port, plain.clean.destination_port) in
    sym (made_again r sized plain)
    ∙ ap (λ (j : Kind). record_of j (take (address_length j) r.source) (take (address_length j) r.destination) r.source_port r.destination_port) kind
    ∙ ap₂ (λ (p q : ℕ). record_of Unspecified [] [] p q) ports.0 ports.1

pub tcp4_line : (r : Record) → r.kind ≡ Ip4 Stream → Sized r → Plain r → TcpLine (ascii "TCP4") (Ip4 Stream) Ip4Address (line_text (Ip4 Stream) r) r
tcp4_line = tcp_line (ascii "TCP4") (Ip4 Stream) Ip4Address octets_text octets_text_lem

pub tcp6_line : (r : Record) → r.kind ≡ Ip6 Stream → Sized r → Plain r → TcpLine (ascii "TCP6") (Ip6 Stream) Ip6Address (line_text (Ip6 Stream) r) r
tcp6_line = tcp_line (ascii "TCP6") (Ip6 Stream) Ip6Address (λ (a : List ℕ). groups_text (groups_of a)) ip6_text

pub line_of : (k : Kind) (r : Record) → r.kind ≡ k → has_form k ≡ true → Sized r → Plain r → Line (line_text k r) r
line_of Local r kind form sized plain = absurd (let z : ◌≡◌ {A = ℕ} 0 1 = cc in omega arith)
line_of Unspecified r kind form sized plain = inl (inl refl, bare_record r kind sized plain)
line_of (Ip4 Stream) r kind form sized plain = inr (inl (tcp4_line r kind sized plain))
line_of (Ip4 Datagram) r kind form sized plain = absurd (let z : ◌≡◌ {A = ℕ} 0 1 = cc in omega arith)
line_of (Ip6 Stream) r kind form sized plain = inr (inr (tcp6_line r kind sized plain))
line_of (Ip6 Datagram) r kind form sized plain = absurd (let z : ◌≡◌ {A = ℕ} 0 1 = cc in omega arith)
line_of (Unix t) r kind form sized plain = absurd (let z : ◌≡◌ {A = ℕ} 0 1 = cc in omega arith)

-- "Longest TCP4 line 56 bytes, TCP6 104": whatever an array holds behind its address
line_fits : (k : Kind) (r : Record) → Sized r → length (line_text k r) ≤ 104
line_fits Local r sized = omega arith
line_fits Unspecified r sized = omega arith
line_fits (Ip4 Stream) r sized =
    let h = longest_tcp4 _ _ (tcp_spoken (ascii "TCP4") (Ip4 Stream) Ip4Address octets_text octets_text_lem r _ sized refl) in omega arith
line_fits (Ip4 Datagram) r sized = omega arith
line_fits (Ip6 Stream) r sized =
    longest_tcp6 _ _ (tcp_spoken (ascii "TCP6") (Ip6 Stream) Ip6Address (λ (a : List ℕ). groups_text (groups_of a)) ip6_text r _ sized refl)
line_fits (Ip6 Datagram) r sized = omega arith
line_fits (Unix t) r sized = omega arith

pub written_fits : (r : Record) → Sized r → length (written_line r) ≤ 104
unfolding written_line
written_fits r = line_fits r.kind r
