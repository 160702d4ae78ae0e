-- The TLV list of an area, as a function of its bytes.
use Rattle.std.specs.Prelude.{List, [], ◌∷◌, ℕ, zero, suc, length, take, drop}
use Rattle.exact.specs.Network.{number}
use Rattle.tlv.specs.Tlv.{Tlv}

-- the TLVs that the bytes begin with, at most n of them: "type, two length bytes (high first), value"
abbrev pub tlvs_from : ℕ → List ℕ → List Tlv
tlvs_from zero s = []
tlvs_from (suc n) [] = []
tlvs_from (suc n) (t ∷ []) = []
tlvs_from (suc n) (t ∷ h ∷ []) = []
tlvs_from (suc n) (t ∷ h ∷ l ∷ s) = record { type = t; value = take (number h l) s } ∷ tlvs_from n (drop (number h l) s)

-- the TLVs of an area; they are no more than its bytes (`few`)
abbrev pub tlvs_of : List ℕ → List Tlv
tlvs_of s = tlvs_from (length s) s
