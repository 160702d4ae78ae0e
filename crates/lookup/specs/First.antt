-- A list of TLVs by its first TLV of a type: where its value starts, how long it is, and that it lies there.
use Rattle.std.specs.Prelude.{◌≡◌, List, ◌∷◌, ◌++◌, ℕ, length}
use Rattle.tlv.specs.Tlv.{Tlv}
use Rattle.lookup.specs.Lookup.{index_of_first}

pub record FirstIn (type : ℕ) (tlvs : List Tlv) : Type 0 where
  pub front : List Tlv
  pub tlv : Tlv
  pub rest : List Tlv
  pub split : tlvs ≡ front ++ tlv ∷ rest
  pub is : tlv.type ≡ type
  pub index : index_of_first type tlvs ≡ length front
