-- The version 1 line as a sequence of fields. Each is judged under the fewest bytes that the fields behind it ask.
use Rattle.std.specs.Prelude.{refl, Bool, true, false, List, [], ◌∷◌, ℕ, ◌<◌, eqb}
use Rattle.std.proofs.Common.{arith}
use Rattle.exact.specs.Claim.{AllBytes}
use Rattle.exact.specs.Ascii.{ascii}
use Rattle.exact.specs.Field.{flat}
use Rattle.exact.specs.Parser.{Parser, Starts, ◌then◌}
use Rattle.exact.proofs.ParserLemmas.{just, either}
use Rattle.exact.proofs.Parser.{starts_seq}
use Rattle.exact.specs.LiteralLaws.{text}
use Rattle.exact.proofs.LiteralLaws.{starts_text}
use Rattle.decimal.proofs.DecimalParser.{decimal}
use Rattle.line_end.proofs.LineParser.{line_end}
use Rattle.record.specs.declared.Transport.TheVariants.{Stream}
use Rattle.record.specs.declared.Kind.{Kind}
use Rattle.record.specs.declared.Kind.TheVariants.{Unspecified, Ip4, Ip6}
use Rattle.record.specs.declared.Record.{Record}
use Rattle.record.specs.Records.{record_of, bare}
use Rattle.header.specs.Header.{Header}

-- what a version 1 line says
abbrev pub lined : Record → Header
lined r = record { «record» = r; version = 1; area = [] }

-- ── the fields ──
-- m is what is asked behind a field: where a field stands in two places, it is given for each m
abbrev pub word : (k m x : ℕ) (w : List ℕ) → AllBytes (x ∷ w) → Parser ℕ (flat m)
word k m x w bytes = text k (flat m) 0 x w bytes

pub starts_word : (first : ℕ → Bool) (k m x : ℕ) (w : List ℕ) (bytes : AllBytes (x ∷ w)) → Starts first (first x) (word k m x w bytes).field
starts_word first k m x w bytes = starts_text first k 0 x w

abbrev pub Headers : Type 1
Headers = Parser Header (flat 0)

abbrev pub AddressParser : Type 1
AddressParser = (m : ℕ) → Parser (List ℕ) (flat m)

abbrev pub lf_field : Parser ℕ (flat 0)
lf_field = word 5 0 10 [] (omega arith)

abbrev pub line_feed : Header → Headers
line_feed h = (lf_field then λ x. just (flat 0) h) (λ x f l. refl)

abbrev pub destination_port : Parser ℕ (flat 1)
destination_port = decimal 4 1 65535 13 (λ d. let h = d.0 in omega arith) (omega arith)

abbrev pub source_port : Parser ℕ (flat 3)
source_port = decimal 4 3 65535 32 (λ d. let h = d.0 in omega arith) (omega arith)

-- the last byte x of the word, 4 or 6, and a space
abbrev pub family_word : (m x : ℕ) → x < 256 → Parser ℕ (flat m)
family_word m x small = word 2 m x (32 ∷ []) (small, (omega arith, tt))

-- from each field of a TCP line to its end, for a kind and its address field
abbrev pub from_destination_port : Kind → List ℕ → List ℕ → ℕ → Headers
from_destination_port kind from to p = (destination_port then λ q. line_feed (lined (record_of kind from to p q))) (λ q f l. refl)

abbrev pub from_source_port : Kind → List ℕ → List ℕ → Headers
from_source_port kind from to = (source_port then from_destination_port kind from to) (λ p f l. refl)

abbrev pub from_destination : Kind → AddressParser → List ℕ → Headers
from_destination kind address from = (address 5 then from_source_port kind from) (λ to f l. refl)

abbrev pub from_source : Kind → AddressParser → Headers
from_source kind address = (address (address 5).least then from_destination kind address) (λ from f l. refl)

-- behind "TCP": the byte x, 4 or 6, a space, two addresses and two ports
abbrev pub tcp : (x : ℕ) → x < 256 → Kind → AddressParser → Headers
tcp x small kind address = (family_word (from_source kind address).least x small then λ u. from_source kind address) (λ u f l. refl)

-- behind "UNKNOWN": CR LF, or a space and a line with an end
abbrev pub cr_field : Parser ℕ (flat 1)
cr_field = word 2 1 13 [] (omega arith)

abbrev pub space_field : (m : ℕ) → Parser ℕ (flat m)
space_field m = word 2 m 32 [] (omega arith)

abbrev pub short_end : Headers
short_end = (cr_field then λ x. line_feed (lined (bare Unspecified))) (λ x f l. refl)

abbrev pub rest_field : Parser ℕ (flat 0)
rest_field = line_end 5 0 93 (omega arith)

abbrev pub from_rest : Headers
from_rest = (rest_field then λ y. just (flat 0) (lined (bare Unspecified))) (λ y f l. refl)

abbrev pub long_end : Headers
long_end = (space_field 2 then λ x. from_rest) (λ x f l. refl)

abbrev pub is_cr : ℕ → Bool
is_cr c = eqb c 13

abbrev pub is4 : ℕ → Bool
is4 c = eqb c 52

abbrev pub is_u : ℕ → Bool
is_u c = eqb c 85

pub short_starts : Starts is_cr true short_end.field
short_starts = starts_seq is_cr true _ _ (starts_word is_cr 2 1 13 [] (omega arith))

pub long_starts : Starts is_cr false long_end.field
long_starts = starts_seq is_cr false _ _ (starts_word is_cr 2 2 32 [] (omega arith))

abbrev pub unknown_word : Parser ℕ (flat 2)
unknown_word = word 2 2 85 (ascii "NKNOWN") (omega arith)

abbrev pub unknown_end : Headers
unknown_end = either is_cr short_end long_end short_starts long_starts

abbrev pub unknown : Headers
unknown = (unknown_word then λ x. unknown_end) (λ x f l. refl)

abbrev pub tcp_word : (m : ℕ) → Parser ℕ (flat m)
tcp_word m = word 2 m 84 (ascii "CP") (omega arith)

abbrev pub proxy_word : (m : ℕ) → Parser ℕ (flat m)
proxy_word m = word 1 m 80 (ascii "ROXY ") (omega arith)

module _ (address4 address6 : AddressParser) where
  abbrev pub tcp4 : Headers
  tcp4 = tcp 52 (omega arith) (Ip4 Stream) address4

  abbrev pub tcp6 : Headers
  tcp6 = tcp 54 (omega arith) (Ip6 Stream) address6

  pub starts4 : Starts is4 true tcp4.field
  starts4 = starts_seq is4 true _ _ (starts_word is4 2 (from_source (Ip4 Stream) address4).least 52 (32 ∷ []) (omega arith))

  pub starts6 : Starts is4 false tcp6.field
  starts6 = starts_seq is4 false _ _ (starts_word is4 2 (from_source (Ip6 Stream) address6).least 54 (32 ∷ []) (omega arith))

  -- behind "TCP"
  abbrev pub families : Headers
  families = either is4 tcp4 tcp6 starts4 starts6

  abbrev pub tcps : Headers
  tcps = (tcp_word families.least then λ x. families) (λ x f l. refl)

  pub unknown_starts : Starts is_u true unknown.field
  unknown_starts = starts_seq is_u true _ _ (starts_word is_u 2 2 85 (ascii "NKNOWN") (omega arith))

  pub tcps_starts : Starts is_u false tcps.field
  tcps_starts = starts_seq is_u false _ _ (starts_word is_u 2 families.least 84 (ascii "CP") (omega arith))

  -- behind "PROXY "
  abbrev pub words : Headers
  words = either is_u unknown tcps unknown_starts tcps_starts

  abbrev pub line : Headers
  line = (proxy_word words.least then λ x. words) (λ x f l. refl)
