-- "it reads back as them": a written value reads as its client, verify number and pieces.
use Rattle.std.specs.Prelude.{List, [], ◌∷◌, Some, None}
use Rattle.exact.specs.Claim.{AllBytes}
use Rattle.ssl_writer.specs.Written.{Piece}

-- ── a written value is one of sub-TLVs ──
-- the bytes of each piece that is there are bytes
abbrev pub OfBytes : List Piece → Type 0
OfBytes [] = Unit {0}
OfBytes (None ∷ rest) = OfBytes rest
OfBytes (Some bytes ∷ rest) = AllBytes bytes × OfBytes rest
