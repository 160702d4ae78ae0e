-- A count over the TLVs that remain of a walk.
use Rattle.std.specs.Prelude.{◌≡◌, refl, Bool, true, false, List, [], ◌∷◌, ℕ, ◌+◌, ◌≤◌, eqb, length, Result}
use Rattle.std.proofs.Common.{sym, ap, ◌∙◌, arith}
use Rattle.exact.specs.Pick.{pick, pick_by}
use Rattle.tlv.specs.Tlv.{Tlv, Area, WellFormed}
use Rattle.tlv.specs.Test.{well_formed}
use Rattle.tlv.proofs.Test.{well_formed_tested, ill_formed_tested}
use Rattle.tlv.specs.Listed.{tlvs_of}
use Rattle.tlv.proofs.Listed.{tlvs_of_lem, few}
use Rattle.tlv_step.specs.declared.IllFormed.{IllFormed}
use Rattle.tlv_step.specs.declared.Tlv.{Tlv as Placed}
use Rattle.tlv_step.specs.Left.{placed, left_from}
use Rattle.tlv_count.specs.Count.{count_of, told_count, count_in, counted, refused, Counts}

-- how many of those that remain are of the type
abbrev pub count_left : (type : ℕ) → List Placed → ℕ
count_left type [] = 0
count_left type (t ∷ rest) = pick (eqb t.tlv_type type) 1 0 + count_left type rest

count_placed : (type at : ℕ) (tlvs : List Tlv) → count_left type (placed at tlvs) ≡ count_of type tlvs
count_placed type at [] = refl
count_placed type at (t ∷ rest) = ap (λ (n : ℕ). pick (eqb t.type type) 1 0 + n) (count_placed type (at + 3 + length t.value) rest)

pub count_all : (type : ℕ) (area : List ℕ) → count_left type (left_from area 0) ≡ count_of type (tlvs_of area)
count_all type area = count_placed type 0 (tlvs_of area)

-- no more are counted than there are bytes
count_few : (type : ℕ) (tlvs : List Tlv) → count_of type tlvs ≤ length tlvs
count_few type [] = omega arith
count_few type (t ∷ rest) =
    let h = count_few type rest in
    pick_by (λ (n : ℕ). n + count_of type rest ≤ length (t ∷ rest)) (eqb t.type type) (λ e. omega arith) (λ e. omega arith)

pub count_bytes : (type : ℕ) (area : List ℕ) → well_formed area ≡ true → count_of type (tlvs_of area) ≤ length area
count_bytes type area w =
    let l = (well_formed_tested area).0 w in
    let n = few l.0 in
    let e = ap length l.1.0 in
    let h = count_few type l.0 in
    rw (tlvs_of_lem area l.0 l.1) (omega arith)

-- what is answered by the area's own list is so by every list that fills it
pub answered : (area : List ℕ) (type : ℕ) (r : Result ℕ IllFormed) → told_count r ≡ count_in type area → Counts area type r
answered area type r e =
    record {
      listed = λ tlvs a. e ∙ rw ((well_formed_tested area).1 (tlvs, a), tlvs_of_lem area tlvs a);
      refuses = λ not. e ∙ rw (ill_formed_tested area not);
    }
