-- How many TLVs of a type an area has.
use Rattle.std.specs.Prelude.{◌≡◌, Bool, ◌&&◌, List, [], ◌∷◌, ℕ, ◌+◌, eqb, Result, Ok, Err}
use Rattle.exact.specs.Pick.{pick}
use Rattle.tlv.specs.Tlv.{Tlv, Area, WellFormed}
use Rattle.tlv.specs.Test.{well_formed}
use Rattle.tlv.specs.Listed.{tlvs_of}
use Rattle.tlv_step.specs.declared.IllFormed.{IllFormed}

-- how many of the TLVs are of the type: "Types such as 0x05 may repeat"
abbrev pub count_of : (type : ℕ) → List Tlv → ℕ
count_of type [] = 0
count_of type (t ∷ rest) = pick (eqb t.type type) 1 0 + count_of type rest

-- a count, or a number
pub data Counted : Type 0 where
  counted : (count : ℕ) → Counted
  refused : (number : ℕ) → Counted

-- the code's answer, by its number and values
abbrev pub told_count : Result ℕ IllFormed → Counted
told_count (Ok n) = counted n
told_count (Err e) = refused 12

-- the count in the area's TLV list; 12, if it is ill-formed
abbrev pub count_in : (type : ℕ) → List ℕ → Counted
count_in type area = pick (well_formed area) (counted (count_of type (tlvs_of area))) (refused 12)

-- what is answered for every area: the count in its TLV list, and 12 if it is ill-formed
pub record Counts (area : List ℕ) (type : ℕ) (r : Result ℕ IllFormed) : Type 0 where
  pub listed : (tlvs : List Tlv) → Area area tlvs → told_count r ≡ counted (count_of type tlvs)
  pub refuses : (WellFormed area → ⊥) → told_count r ≡ refused 12

-- whether TLVs fill the area, and none of them is of the type
abbrev pub none_test : (type : ℕ) → List ℕ → Bool
none_test type area = well_formed area && eqb (count_of type (tlvs_of area)) 0
