-- The version 2 block as a sequence of fields. Each is judged under the fewest bytes that the fields behind it ask.
use Rattle.std.specs.Prelude.{◌≡◌, refl, Bool, true, List, [], ◌∷◌, ℕ, ◌+◌, ◌-◌, ◌≤◌, ◌<◌, eqb, Option, Some, None}
use Rattle.std.proofs.Common.{arith}
use Rattle.exact.specs.Field.{flat}
use Rattle.exact.specs.Pick.{pick}
use Rattle.exact.specs.Parser.{Parser, ◌then◌, spelled}
use Rattle.exact.proofs.ParserLemmas.{just}
use Rattle.exact.specs.Byte.{one_byte, count}
use Rattle.exact.specs.Number.{any}
use Rattle.exact.proofs.NumberLemmas.{number16}
use Rattle.tlv.proofs.RegionLeaf.{region}
use Rattle.record.specs.declared.Kind.{Kind}
use Rattle.record.specs.declared.Kind.TheVariants.{Local, Unspecified, Ip4, Ip6, Unix}
use Rattle.record.specs.declared.Record.{Record}
use Rattle.record.specs.Kinds.{family, address_length, port_length, block_length}
use Rattle.record.specs.Records.{record_of}
use Rattle.header.specs.Block.{LOCAL, PROXY}
use Rattle.header.specs.Header.{Header}
use Rattle.fields.specs.LineFields.{word, Headers}

-- what a version 2 block says
abbrev pub blocked : Record → List ℕ → Header
blocked r area = record { «record» = r; version = 2; area = area }

-- ── the fields ──
pub data Command : Type 0 where
  local : Command
  proxy : Command

abbrev pub command_of : ℕ → Option Command
command_of c = pick (eqb c LOCAL) (Some local) (pick (eqb c PROXY) (Some proxy) None)

-- both commands ask as much
abbrev pub command : Parser Command (flat 3)
command = one_byte command_of (flat 3) 6 LOCAL local (omega arith) refl (λ d b small e. omega arith)

abbrev pub always : ℕ → Bool
always n = true

-- n bytes that are not looked at
abbrev pub skipped_bytes : Record → ℕ → Headers
skipped_bytes r n = (count (flat 0) 9 n then λ u. just (flat 0) (blocked r [])) (λ u f l. refl)

abbrev pub two_bytes : (m : ℕ) → Parser ℕ (flat m)
two_bytes m = number16 always 9 (flat m) (λ h. (0, omega arith, refl, λ d small g. omega arith)) (0, omega arith, λ d small. omega arith)

abbrev pub port : (m : ℕ) → Kind → Parser ℕ (flat m)
port m Local = just (flat m) 0
port m Unspecified = just (flat m) 0
port m (Ip4 t) = two_bytes m
port m (Ip6 t) = two_bytes m
port m (Unix t) = just (flat m) 0

pub port-least : (m : ℕ) (k : Kind) → (port m k).least ≡ port_length k + m
port-least m Local = omega arith
port-least m Unspecified = omega arith
port-least m (Ip4 t) = omega arith
port-least m (Ip6 t) = omega arith
port-least m (Unix t) = omega arith

pub three_more : (m : ℕ) → 3 ≤ 3 + m
three_more m = omega arith

-- TLVs that fill 3 + m bytes
abbrev pub tlvs : ℕ → Parser (List ℕ) (flat 0)
tlvs m = spelled (region 9 0 (3 + m) (three_more m))

-- the TLVs behind an address block of a bytes, where the length is n; n is a, or at least a + 3
abbrev pub area : ℕ → ℕ → Parser (List ℕ) (flat 0)
area a n = pick (eqb n a) (just (flat 0) []) (tlvs (n - (a + 3)))

pub block_small : (k : Kind) → block_length k + 3 ≤ 256
block_small Local = omega arith
block_small Unspecified = omega arith
block_small (Ip4 t) = omega arith
block_small (Ip6 t) = omega arith
block_small (Unix t) = omega arith

pub block_length_byte : (k : Kind) → block_length k < 256
block_length_byte k = let small = block_small k in omega arith

abbrev pub address : (m : ℕ) → Kind → Parser (List ℕ) (flat m)
address m k = spelled (count (flat m) 9 (address_length k))

-- behind the length n: the address block and the TLVs
abbrev pub from_area : Kind → ℕ → List ℕ → List ℕ → ℕ → ℕ → Headers
from_area k n from to p q = (area (block_length k) n then λ a. just (flat 0) (blocked (record_of k from to p q) a)) (λ a f l. refl)

-- what each field asks behind it, where the length is n
abbrev pub asks_area : Kind → ℕ → ℕ
asks_area k n = (area (block_length k) n).least

abbrev pub asks_port : Kind → ℕ → ℕ
asks_port k n = (port (asks_area k n) k).least

abbrev pub asks_ports : Kind → ℕ → ℕ
asks_ports k n = (port (asks_port k n) k).least

abbrev pub asks_address : Kind → ℕ → ℕ
asks_address k n = (address (asks_ports k n) k).least

abbrev pub addresses : Kind → ℕ → Headers
addresses k n =
    (address (asks_address k n) k
    then λ from. (address (asks_ports k n) k
    then λ to. (port (asks_port k n) k
    then λ p. (port (asks_area k n) k then from_area k n from to p) (λ q f l. refl)) (λ p f l. refl)) (λ to f l. refl)) (λ from f l. refl)

-- two length bytes, and the shortest block
abbrev pub asks_family : Kind → ℕ
asks_family k = 2 + block_length k

abbrev pub family_field : Parser Kind asks_family
family_field = one_byte family asks_family 7 0 Unspecified (omega arith) refl (λ d k small e. omega arith)

abbrev pub any_byte : Parser ℕ (flat 2)
any_byte = one_byte any (flat 2) 7 0 0 (omega arith) refl (λ d b small e. omega arith)

abbrev pub signature_field : Parser ℕ (flat 4)
signature_field =
    word 1 4 0x0D (0x0A ∷ 0x0D ∷ 0x0A ∷ 0x00 ∷ 0x0D ∷ 0x0A ∷ 0x51 ∷ 0x55 ∷ 0x49 ∷ 0x54 ∷ 0x0A ∷ []) (omega arith)
