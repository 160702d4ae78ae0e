-- For proofs. A header that ends with its TLV area, and where the value of the area's first 0x03 TLV lies.
use Rattle.std.specs.Prelude.{◌≡◌, List, [], ◌∷◌, ◌++◌, ℕ, ◌+◌, length}
use Rattle.tlv.specs.Tlv.{Tlv, written, Area}
use Rattle.checksum.specs.Checksum.{values_of}

abbrev pub LastPart : (header area : List ℕ) → Type 0
LastPart header area = (body : List ℕ) × (header ≡ body ++ area)

-- the first TLV of a type in a list
pub record First (type : ℕ) (tlvs : List Tlv) : Type 0 where
  pub before : List Tlv
  pub tlv : Tlv
  pub after : List Tlv
  pub split : tlvs ≡ before ++ tlv ∷ after
  pub is : tlv.type ≡ type
  pub none : values_of type before ≡ []

pub record FirstAt (header area : List ℕ) (start size : ℕ) : Type 0 where
  pub whole : LastPart header area
  pub tlvs : List Tlv
  pub listed : Area area tlvs
  pub first : First 0x03 tlvs
  pub starts : start ≡ length (written first.before) + 3
  pub sized : size ≡ length first.tlv.value
