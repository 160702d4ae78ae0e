-- Whether a TLV area may be written beside a kind, and the same as a test (document 01, "Numbered answers", 12).
use Rattle.std.specs.Prelude.{◌≡◌, Bool, List, [], ℕ, eqb, length}
use Rattle.tlv.specs.Tlv.{WellFormed}
use Rattle.tlv.specs.Test.{well_formed}
use Rattle.record.specs.declared.Kind.{Kind}
use Rattle.record.specs.declared.Kind.TheVariants.{Local, Unspecified, Ip4, Ip6, Unix}
use Rattle.header.specs.Block.{HasAddresses}

-- "a TLV area is ill-formed, or non-empty beside local or unspecified" is refused
abbrev pub AreaFits : Kind → List ℕ → Type 0
AreaFits k area = WellFormed area × ((HasAddresses k → ⊥) → area ≡ [])

-- the same as a test
abbrev pub area_test : Kind → List ℕ → Bool
area_test Local area = eqb (length area) 0
area_test Unspecified area = eqb (length area) 0
area_test (Ip4 t) area = well_formed area
area_test (Ip6 t) area = well_formed area
area_test (Unix t) area = well_formed area
