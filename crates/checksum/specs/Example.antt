-- A header with its checksum, worked out by long division of its bits by 0x11EDC6F41 (examples/checked.c has the same): it is accepted with matched, and
-- with one bit of its source port altered it is 23.
use Rattle.std.specs.Prelude.{List, [], ◌∷◌, ◌++◌, ℕ}
use Rattle.header.specs.Block.{signature}

-- ALPN "h2", and the checksum
abbrev pub area : List ℕ
area = 0x01 ∷ 0 ∷ 2 ∷ 0x68 ∷ 0x32 ∷ 0x03 ∷ 0 ∷ 4 ∷ 0x76 ∷ 0x32 ∷ 0x3A ∷ 0x48 ∷ []

-- PROXY, IPv4 stream, 24 bytes; 192.168.0.1 to 192.168.0.11, from this port to port 443
abbrev pub header : (high low : ℕ) → List ℕ
header high low = signature ++ (0x21 ∷ 0x11 ∷ 0 ∷ 24 ∷ 192 ∷ 168 ∷ 0 ∷ 1 ∷ 192 ∷ 168 ∷ 0 ∷ 11 ∷ high ∷ low ∷ 0x01 ∷ 0xBB ∷ []) ++ area
