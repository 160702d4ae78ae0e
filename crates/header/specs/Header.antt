-- What a whole header is, and the number of a place in it (document 01, "Numbered answers" and "How the promises are judged"). No reader is mentioned.
use Rattle.std.specs.Prelude.{◌≡◌, List, [], ◌∷◌, ◌⊎◌, ℕ, ◌+◌, eqb, ltb, length, get_or}
use Rattle.exact.specs.Pick.{pick}
use Rattle.record.specs.declared.Record.{Record}
use Rattle.header.specs.Line.{Line}
use Rattle.header.specs.Block.{Block}

-- what a header says: the record, the version, and the TLV area
pub record Header : Type 0 where
  pub «record» : Record
  pub version : ℕ
  pub area : List ℕ

-- "a version 1 line with its CR LF, or the 16 + L bytes of version 2, that keeps the rules of its section"
abbrev pub Whole : List ℕ → Header → Type 0
Whole f h =
    (Line f h.«record» × (h.version ≡ 1) × (h.area ≡ []))
    ⊎ (Block f h.«record» h.area × (h.version ≡ 2))

-- how many parts of a line have ended: each ends with a space or a CR
abbrev pub parts_ended : List ℕ → ℕ
parts_ended [] = 0
parts_ended (c ∷ u) = pick (eqb c 32) 1 (pick (eqb c 13) 1 0) + parts_ended u

-- the parts of a TCP4 or TCP6 line: "PROXY" 1, the word 2, two addresses 3, two ports 4, and the LF behind the CR 5
abbrev pub tcp_number : ℕ → ℕ
tcp_number n = pick (ltb n 1) 1 (pick (ltb n 2) 2 (pick (ltb n 4) 3 (pick (ltb n 6) 4 5)))

-- the parts of an UNKNOWN line: "PROXY" 1, the word and the byte behind it 2, all further bytes 5
abbrev pub unknown_number : ℕ → ℕ
unknown_number n = pick (ltb n 1) 1 (pick (ltb n 2) 2 5)

-- byte 6 tells which line it is: the U of UNKNOWN
abbrev pub line_number : List ℕ → ℕ
line_number u = pick (eqb (get_or u 6 0) 85) (unknown_number (parts_ended u)) (tcp_number (parts_ended u))

-- the fields of version 2 by their places: the signature 1, byte 12 6, byte 13 7, bytes 14 and 15 8, TLVs 9
abbrev pub block_number : ℕ → ℕ
block_number p = pick (ltb p 12) 1 (pick (ltb p 13) 6 (pick (ltb p 14) 7 (pick (ltb p 16) 8 9)))

-- the number of the field that holds the byte behind the bytes u, where u begins a header: byte 0 tells which version it is
abbrev pub place_number : List ℕ → ℕ
place_number u = pick (eqb (get_or u 0 0) 13) (block_number (length u)) (line_number u)
