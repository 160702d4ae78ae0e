-- Laws of TLV areas: an area has one TLV list, one TLV is an area, joined lists are written one behind the other and fill joined areas, what stands behind
-- an area in a longer one is an area, and an area is of bytes.
use Rattle.std.specs.Prelude.{List, ℕ, get_or}

-- the byte at a place
abbrev pub byte : ℕ → List ℕ → ℕ
byte i f = get_or f i 0
