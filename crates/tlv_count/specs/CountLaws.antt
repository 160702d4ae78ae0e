-- Laws of counts: joined lists have the sum, and none is counted exactly if no TLV is of the type.
use Rattle.std.specs.Prelude.{◌≡◌, ℕ}
use mathlib.Core.List.{List, Memᴰ}
use Rattle.tlv.specs.Tlv.{Tlv}

-- no TLV of the list is of the type
abbrev pub Without : (type : ℕ) → List Tlv → Type 0
Without type tlvs = (t : Tlv) → Memᴰ t tlvs → t.type ≡ type → ⊥
