-- The profile that a header has to meet, and the level of its source (document 02, K14). No reader is mentioned.
use Rattle.std.specs.Prelude.{◌≡◌, List, ℕ, ◌+◌, ◌-◌, eqb, leb, length}
use Rattle.exact.specs.Pick.{pick}
use Rattle.record.specs.declared.Transport.{Transport}
use Rattle.record.specs.declared.Transport.TheVariants.{Stream, Datagram}
use Rattle.record.specs.declared.Kind.{Kind}
use Rattle.record.specs.declared.Kind.TheVariants.{Local, Unspecified, Ip4, Ip6, Unix}
use Rattle.header.specs.Header.{Header}
use Rattle.prefix.specs.Prefix.{Prefix}
use Rattle.prefix_table.specs.Table.{Decides}
use Rattle.prefix_table.specs.TableTests.{level_in}
use Rattle.unique_id.specs.UniqueId.{identified, id_of}

-- what is answered: a level, with the header's length, and where the value of TLV 0x05 starts in the bytes and its length; the plain verdict's more and
-- refused; or a number from 30 to 34
pub data Admission : Type 0 where
  admitted : (level length start size : ℕ) → Admission
  more : (least : ℕ) → Admission
  refused : (number place : ℕ) → Admission
  denied : (number : ℕ) → Admission

-- where a connection comes from, as far as the profile tells kinds apart
pub data Origin : Type 0 where
  local : Origin
  stream : (family : ℕ) → Origin
  other : Origin

-- "local, or IPv4 or IPv6 stream": the kind gives the family of the source, 4 or 6, so "Mapped IPv4 counts as IPv6"
abbrev pub of_family : (family : ℕ) → Transport → Origin
of_family family Stream = stream family
of_family family Datagram = other

abbrev pub origin_of : Kind → Origin
origin_of Local = local
origin_of Unspecified = other
origin_of (Ip4 t) = of_family 4 t
origin_of (Ip6 t) = of_family 6 t
origin_of (Unix t) = other

-- "a header of at most 536 bytes, else 32"
abbrev pub if_short : (n : ℕ) → Admission → Admission
if_short n answer = pick (leb n 536) answer (denied 32)

-- "for non-local exactly one TLV 0x05, of 1 to 128 bytes, else 33": the area is the last part of the header's n bytes
abbrev pub if_identified : (area : List ℕ) (n level : ℕ) → Admission
if_identified area n level = pick (identified area) (admitted level n (n - length area + (id_of area).start) (id_of area).size) (denied 33)

-- "local, or IPv4 or IPv6 stream, else 31"; "none matching, and local, are level 0", and local has no value of 0x05: 0, 0
abbrev pub by_origin : Origin → (area : List ℕ) (n level : ℕ) → Admission
by_origin local area n level = if_short n (admitted 0 n 0 0)
by_origin (stream family) area n level = if_short n (if_identified area n level)
by_origin other area n level = denied 31

-- "version 2, else 30"
abbrev pub by_version : (version : ℕ) → Origin → (area : List ℕ) (n level : ℕ) → Admission
by_version version origin area n level = pick (eqb version 2) (by_origin origin area n level) (denied 30)

-- what is answered to a whole header of n bytes whose source has this level
abbrev pub profile : Header → (n level : ℕ) → Admission
profile h n level = by_version h.version (origin_of h.«record».kind) h.area n level

-- ── the level of the source ──
-- "the longest matching prefix of its family decides"
abbrev pub SourceLevel : List Prefix → Origin → (source : List ℕ) (level : ℕ) → Type 0
SourceLevel rows local source level = level ≡ 0
SourceLevel rows (stream family) source level = Decides rows family source level
SourceLevel rows other source level = level ≡ 0

-- the same as a function
abbrev pub source_level : List Prefix → Origin → (source : List ℕ) → ℕ
source_level rows local source = 0
source_level rows (stream family) source = level_in rows family source
source_level rows other source = 0
