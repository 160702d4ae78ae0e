-- The TLVs that remain of a walk over a well-formed area, at their places.
use Rattle.std.specs.Prelude.{List, [], ◌∷◌, ℕ, ◌+◌, length, drop}
use Rattle.tlv.specs.Tlv as Spec
use Rattle.tlv.specs.Listed.{tlvs_of}
use Rattle.tlv_step.specs.declared.Tlv.{Tlv}
use Rattle.tlv_step.specs.declared.Tlvs.{Tlvs}

-- TLVs of which the first stands at this place: a head of three bytes, and then the value
abbrev pub placed : (at : ℕ) → List Spec.Tlv → List Tlv
placed at [] = []
placed at (t ∷ rest) = record { tlv_type = t.type; value = record { start = at + 3; size = length t.value } } ∷ placed (at + 3 + length t.value) rest

-- those that stand from a place on
abbrev pub left_from : List ℕ → (at : ℕ) → List Tlv
left_from s at = placed at (tlvs_of (drop at s))

abbrev pub tlvs_left : Tlvs → List Tlv
tlvs_left s = left_from s.area.now s.at
