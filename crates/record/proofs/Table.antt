-- Lemmas on what specs/Table.antt defines.
use Rattle.std.specs.Prelude.{◌≡◌, refl, [], ◌∷◌, map}
use Rattle.exact.specs.Ascii.{ascii}
use Rattle.record.specs.Kinds.{family, block_length, kind_word}
use Rattle.record.specs.Tabulated.{rows_from}
use Rattle.record.specs.Table.{kinds, table}

-- of all bytes these twelve are in the table, and no other: "Refusal 7 is for the rest only"
pub only_twelve : rows_from family 0 256 ≡ table
only_twelve = refl

-- "Address block A"
pub lengths : map block_length kinds ≡ 0 ∷ 0 ∷ 12 ∷ 12 ∷ 36 ∷ 36 ∷ 216 ∷ 216 ∷ []
lengths = refl

-- "Kind words: local, unspecified, ip4, ip6, unix, the last three with -stream or -datagram"
pub words : map kind_word kinds
    ≡ ascii "local"
    ∷ ascii "unspecified"
    ∷ ascii "ip4-stream"
    ∷ ascii "ip4-datagram"
    ∷ ascii "ip6-stream"
    ∷ ascii "ip6-datagram"
    ∷ ascii "unix-stream"
    ∷ ascii "unix-datagram" ∷ []
words = refl
