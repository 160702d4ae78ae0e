-- Lemmas on what specs/Lookup.antt defines.
use Rattle.std.specs.Prelude.{◌≡◌, List, ℕ}
use Rattle.tlv.specs.Tlv.{Tlv, Area, WellFormed}
use Rattle.tlv.proofs.Listed.{tlvs_of_lem}
use Rattle.tlv.proofs.Test.{well_formed_tested, ill_formed_tested}
use Rattle.lookup.specs.Lookup.{ill_formed, lookup_in, lookup_of}

-- that is, by the TLVs that fill the area; where none do, 12
module _ (area : List ℕ) (wanted limit : ℕ) where
  pub lookup_listed : (tlvs : List Tlv) → Area area tlvs → lookup_of area wanted limit ≡ lookup_in tlvs wanted limit
  lookup_listed tlvs a = rw ((well_formed_tested area).1 (tlvs, a), tlvs_of_lem area tlvs a)

  pub lookup_refused : (WellFormed area → ⊥) → lookup_of area wanted limit ≡ ill_formed
  lookup_refused not = rw (ill_formed_tested area not)
