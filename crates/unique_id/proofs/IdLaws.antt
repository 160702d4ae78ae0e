-- Where a unique ID lies: inside its area, and there stands the value of the only TLV 0x05.
use Rattle.std.specs.Prelude.{◌≡◌, Bool, true, false, List, [], ◌∷◌, ℕ, suc, ◌+◌, ◌≤◌, ◌<◌, eqb, length, take, drop}
use Rattle.std.proofs.Common.{sym, ap, ◌∙◌, arith, eqb-true}
use Rattle.exact.specs.Pick.{pick}
use Rattle.exact.proofs.Pick.{both}
use Rattle.tlv.specs.Tlv.{Tlv, written, Area}
use Rattle.tlv.specs.Test.{well_formed}
use Rattle.tlv.proofs.Test.{well_formed_tested}
use Rattle.tlv.specs.Listed.{tlvs_of}
use Rattle.tlv.proofs.Listed.{tlvs_of_lem}
use Rattle.lookup.specs.Lookup.{index_of_first}
use Rattle.lookup.specs.First.{FirstIn}
use Rattle.lookup.proofs.First.{first_in, first_there, first_ends}
use Rattle.tlv_count.specs.Count.{count_of}
use Rattle.unique_id.specs.UniqueId.{first_value, has_id, identified, id_of}

-- where some are counted, there is a first
pub counted_first : (type : ℕ) (tlvs : List Tlv) → 0 < count_of type tlvs → index_of_first type tlvs < length tlvs
counted_first type [] h = absurd (omega arith)
counted_first type (t ∷ rest) h = by (eqb t.type type) h (counted_first type rest)
  where
    by : (c : Bool) → 0 < pick c 1 0 + count_of type rest → (0 < count_of type rest → index_of_first type rest < length rest)
        → pick c 0 (suc (index_of_first type rest)) < suc (length rest)
    by true h behind = omega arith
    by false h behind = let g = behind (omega arith) in omega arith

-- ── the unique ID ──
module _ (tlvs : List Tlv) (has : has_id tlvs ≡ true) where
  one : count_of 0x05 tlvs ≡ 1
  one = eqb-true (count_of 0x05 tlvs) 1 (both (eqb (count_of 0x05 tlvs) 1) _ has).0

  pub the_id : FirstIn 0x05 tlvs
  the_id = first_in 0x05 tlvs (counted_first 0x05 tlvs (let e = one in omega arith))

  -- where it is said to lie there is its value
  pub id_there : (area : List ℕ) → Area area tlvs → take (first_value tlvs).size (drop (first_value tlvs).start area) ≡ the_id.tlv.value
  id_there = first_there 0x05 tlvs the_id

  pub id_ends : (first_value tlvs).start + (first_value tlvs).size ≤ length (written tlvs)
  id_ends = first_ends 0x05 tlvs the_id

-- in its area
pub id_inside : (area : List ℕ) → identified area ≡ true → (id_of area).start + (id_of area).size ≤ length area
id_inside area e =
    let t = both (well_formed area) (has_id (tlvs_of area)) e in
    let f = (well_formed_tested area).0 t.0 in
    let n = ap length (f.1.0 ∙ ap written (sym (tlvs_of_lem area f.0 f.1))) in
    let h = id_ends (tlvs_of area) t.1 in
    omega arith
