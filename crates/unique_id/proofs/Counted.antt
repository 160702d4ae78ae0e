-- Where one is counted the lookup finds it.
use Rattle.std.specs.Prelude.{◌≡◌, refl, Bool, true, false, List, ℕ, ◌+◌, length}
use Rattle.std.proofs.Common.{ap, ◌∙◌, arith, lt-ltb}
use Rattle.exact.specs.Pick.{pick}
use Rattle.tlv.specs.Tlv.{Tlv}
use Rattle.tlv.specs.Test.{well_formed}
use Rattle.tlv.proofs.Test.{well_formed_tested}
use Rattle.tlv.specs.Listed.{tlvs_of}
use Rattle.tlv.proofs.Listed.{tlvs_of_lem, few}
use Rattle.lookup.specs.Lookup.{Finding, found, absent, gave_up, Lookup, found_at, without, index_of_first, lookup_of}
use Rattle.tlv_count.specs.Count.{Counted, counted, refused, count_of, count_in}
use Rattle.unique_id.specs.UniqueId.{first_value}
use Rattle.unique_id.proofs.IdLaws.{counted_first}

module _ (area : List ℕ) where
  abbrev all : List Tlv
  all = tlvs_of area

  abbrev answer : Bool → Counted
  answer b = pick b (counted (count_of 0x05 all)) (refused 12)

  -- one is counted
  one_by : (b : Bool) → counted 1 ≡ answer b → (b ≡ true) × (count_of 0x05 all ≡ 1)
  one_by true e = (refl, cc)
  one_by false e = let z : ◌≡◌ {A = ℕ} 0 1 = cc in absurd (omega arith)

  module _ (one : counted 1 ≡ count_in 0x05 area) where
    filled : well_formed area ≡ true
    filled = (one_by (well_formed area) one).0

    looked_up : lookup_of area 0x05 (length area) ≡ found_at (index_of_first 0x05 all + 1) (first_value all).start (first_value all).size
    looked_up =
        let w = (well_formed_tested area).0 filled in
        let n = few w.0 in
        let e = ap length w.1.0 in
        let m = ap length (tlvs_of_lem area w.0 w.1) in
        let c = (one_by (well_formed area) one).1 in
        let h = counted_first 0x05 all (omega arith) in
        rw (filled, lt-ltb (index_of_first 0x05 all) (length all) h, lt-ltb (index_of_first 0x05 all) (length area) (omega arith))

    -- so the lookup finds it
    finds : (x : Finding) (n : ℕ) → without x n ≡ lookup_of area 0x05 (length area) → x ≡ found
    finds x n e = ap (λ (l : Lookup). l.outcome) (e ∙ looked_up)

    pub not_absent : (n : ℕ) → without absent n ≡ lookup_of area 0x05 (length area) → ⊥
    not_absent n e = let f = finds absent n e in let z : ◌≡◌ {A = ℕ} 0 1 = cc in omega arith

    pub not_given_up : (n : ℕ) → without gave_up n ≡ lookup_of area 0x05 (length area) → ⊥
    not_given_up n e = let f = finds gave_up n e in let z : ◌≡◌ {A = ℕ} 0 1 = cc in omega arith
