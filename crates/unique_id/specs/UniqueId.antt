-- The unique ID that a TLV area gives : TLV 0x05, the specification's PP2_TYPE_UNIQUE_ID.
use Rattle.std.specs.Prelude.{Bool, ◌&&◌, List, ℕ, eqb, leb, Option, Some, None}
use Rattle.exact.specs.Pick.{pick}
use Rattle.tlv.specs.Tlv.{Tlv}
use Rattle.tlv.specs.Test.{well_formed}
use Rattle.tlv.specs.Listed.{tlvs_of}
use Rattle.lookup.specs.Lookup.{index_of_first, start_of, length_of}
use Rattle.tlv_count.specs.Count.{count_of}
pub use Rattle.tlv_step.specs.declared.Part.{Part as Value}

-- the value of the first TLV 0x05
abbrev pub first_value : List Tlv → Value
first_value tlvs = record { start = start_of (index_of_first 0x05 tlvs) tlvs; size = length_of (index_of_first 0x05 tlvs) tlvs }

-- "of 1 to 128 bytes"
abbrev pub is_sized : Value → Bool
is_sized v = leb 1 v.size && leb v.size 128

-- "exactly one TLV 0x05, of 1 to 128 bytes"
abbrev pub has_id : List Tlv → Bool
has_id tlvs = eqb (count_of 0x05 tlvs) 1 && is_sized (first_value tlvs)

-- the same of an area; one that TLVs do not fill has none
abbrev pub identified : List ℕ → Bool
identified area = well_formed area && has_id (tlvs_of area)

abbrev pub id_of : List ℕ → Value
id_of area = first_value (tlvs_of area)

abbrev pub id_in : List ℕ → Option Value
id_in area = pick (identified area) (Some (id_of area)) None
