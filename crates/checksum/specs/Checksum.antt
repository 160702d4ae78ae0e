-- The checksum of a header, and when it is right (document 02, K6). No reader is mentioned.
use Rattle.std.specs.Prelude.{◌≡◌, List, [], ◌∷◌, ◌++◌, ℕ, ◌-◌, ◌≤◌, eqb, length, take, replicate}
use Rattle.exact.specs.Pick.{pick}
use Rattle.tlv.specs.Tlv.{Tlv, written}
use Rattle.crc.specs.Crc.{checksum, stored}

-- the values of the TLVs of a type, in their order
abbrev pub values_of : (type : ℕ) → List Tlv → List (List ℕ)
values_of type [] = []
values_of type (t ∷ rest) = pick (eqb t.type type) (t.value ∷ values_of type rest) (values_of type rest)

-- "the four value bytes of TLV 0x03 taken as zero"
abbrev pub zeroed_tlv : Tlv → Tlv
zeroed_tlv t =
    record { type = t.type; value = pick (eqb t.type 0x03) (replicate (length t.value) 0) t.value }

abbrev pub zeroed : List Tlv → List Tlv
zeroed [] = []
zeroed (t ∷ rest) = zeroed_tlv t ∷ zeroed rest

-- "CRC32C [..] over the whole header, the four value bytes of TLV 0x03 taken as zero, the result stored in network order": of the header f, whose
-- last bytes are these TLVs
abbrev pub checksum_of : List ℕ → List Tlv → List ℕ
checksum_of f tlvs = stored (checksum (take (length f - length (written tlvs)) f ++ written (zeroed tlvs)))

-- the checksum of the header f with these TLVs is right: one of them is 0x03, and its value is the checksum
abbrev pub Right : List ℕ → List Tlv → Type 0
Right f tlvs = values_of 0x03 tlvs ≡ checksum_of f tlvs ∷ []

-- it "has a wrong checksum, a 0x03 value that is not 4 bytes, or several 0x03 TLVs"
pub data Wrong (f : List ℕ) (tlvs : List Tlv) : Type 0 where
  differs : (value : List ℕ) → values_of 0x03 tlvs ≡ value ∷ [] → (value ≡ checksum_of f tlvs → ⊥) → Wrong f tlvs
  not_four : (value : List ℕ) → values_of 0x03 tlvs ≡ value ∷ [] → (length value ≡ 4 → ⊥) → Wrong f tlvs
  several : 2 ≤ length (values_of 0x03 tlvs) → Wrong f tlvs
