-- For proofs. The pieces where one more sub-TLV is noted: the first of its type counts.
use Rattle.std.specs.Prelude.{List, [], ◌∷◌, ℕ, suc, ◌+◌, eqb, length, map, Option, Some, None}
use Rattle.exact.specs.Pick.{pick}
use Rattle.tlv.specs.Tlv.{Tlv, written}
use Rattle.ssl_reader.specs.Ssl.{Part}

-- a piece as it is noted; none starts at 0
abbrev pub found_part : Part → Option Part
found_part p = pick (eqb p.start 0) None (Some p)

abbrev pub found_parts : List Part → List (Option Part)
found_parts = map found_part

-- the part that was there first, or else this one
abbrev pub or_part : Option Part → Part → Option Part
or_part (Some p) q = Some p
or_part None q = Some q

-- a sub-TLV of this type is noted among the parts of the types from this one on
abbrev pub noted : (type : ℕ) → Part → (from : ℕ) → List (Option Part) → List (Option Part)
noted type q from [] = []
noted type q from (p ∷ rest) = pick (eqb type from) (or_part p q) p ∷ noted type q (suc from) rest

-- the part of a sub-TLV that stands behind others
abbrev pub part_behind : List Tlv → Tlv → Part
part_behind subs t = record { start = 5 + (length (written subs) + 3); size = length t.value }
