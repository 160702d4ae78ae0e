-- TLV areas: document 01, "The binary block" and "Looking into TLVs".
use Rattle.std.specs.Prelude.{◌≡◌, List, [], ◌∷◌, ◌++◌, ℕ, ◌<◌, length}
use Rattle.exact.specs.Claim.{AllBytes}
use Rattle.exact.specs.Network.{network}

pub record Tlv : Type 0 where
  pub type : ℕ
  pub value : List ℕ

-- "type, two length bytes (high first), value"
abbrev pub tlv_bytes : ℕ → List ℕ → List ℕ
tlv_bytes type value = type ∷ network (length value) ++ value

-- the bytes of TLVs, one behind the other
abbrev pub written : List Tlv → List ℕ
written [] = []
written (t ∷ rest) = tlv_bytes t.type t.value ++ written rest

-- types and values are of bytes, and two bytes hold the length
abbrev pub Proper : List Tlv → Type 0
Proper [] = Unit {0}
Proper (t ∷ rest) = (t.type < 256) × AllBytes t.value × (length t.value < 65536) × Proper rest

-- the TLVs of an area
abbrev pub Area : List ℕ → List Tlv → Type 0
Area f tlvs = (f ≡ written tlvs) × Proper tlvs

-- "A TLV area is well-formed if TLVs fill it; the empty area is"
abbrev pub WellFormed : List ℕ → Type 0
WellFormed f = (tlvs : List Tlv) × Area f tlvs

-- "they fill it exactly": TLVs fill these n bytes
abbrev pub Filled : ℕ → List ℕ → Type 0
Filled n f = (length f ≡ n) × WellFormed f

-- u begins n bytes that TLVs fill
abbrev pub Completes : ℕ → List ℕ → Type 0
Completes n u = (t : List ℕ) × Filled n (u ++ t)
