-- Lookup in a TLV area.
use Rattle.std.specs.Prelude.{◌≡◌, List, [], ◌∷◌, ℕ, zero, suc, ◌+◌, ◌≤◌, eqb, ltb, leb, length, take, Result, Ok, Err}
use Rattle.exact.specs.Pick.{pick}
use Rattle.tlv.specs.Tlv.{Tlv, written}
use Rattle.tlv.specs.Listed.{tlvs_of}
use Rattle.tlv.specs.Test.{well_formed}
use Rattle.lookup.specs.declared.Answer.{Answer}
use Rattle.lookup.specs.declared.Answer.TheVariants.{Found, Absent, GaveUp}
use Rattle.lookup.specs.declared.Examined.{Examined}
use Rattle.tlv_step.specs.declared.IllFormed.{IllFormed}

-- what a lookup finds out: "found", "absent", "gave up", or a number
pub data Finding : Type 0 where
  found : Finding
  absent : Finding
  gave_up : Finding
  refused : (number : ℕ) → Finding

-- that with "the number of TLVs examined", and "where the value starts in the area and its length"
pub record Lookup : Type 0 where
  pub outcome : Finding
  pub count : ℕ
  pub start : ℕ
  pub length : ℕ

-- "Found also gives where the value starts in the area and its length"
abbrev pub found_at : ℕ → ℕ → ℕ → Lookup
found_at count start size = record { outcome = found; count = count; start = start; length = size }

-- "the other answers give 0 for both"
abbrev pub without : Finding → ℕ → Lookup
without outcome count = record { outcome = outcome; count = count; start = 0; length = 0 }

-- "An ill-formed area: 12, count 0"
abbrev pub ill_formed : Lookup
ill_formed = without (refused 12) 0

-- the code's answer, by its number and values
abbrev pub told_answer : (count : ℕ) → Answer → Lookup
told_answer count (Found p) = found_at count p.start p.size
told_answer count Absent = without absent count
told_answer count GaveUp = without gave_up count

abbrev pub told_lookup : Result Examined IllFormed → Lookup
told_lookup (Ok r) = told_answer r.count r.answer
told_lookup (Err e) = ill_formed

abbrev pub told_finding : Result Examined IllFormed → Finding
told_finding r = (told_lookup r).outcome

-- the index of "the first TLV of that type"; N, "if there is none"
abbrev pub index_of_first : ℕ → List Tlv → ℕ
index_of_first wanted [] = 0
index_of_first wanted (t ∷ rest) = pick (eqb t.type wanted) 0 (suc (index_of_first wanted rest))

-- "where the value starts in the area": behind the TLVs before it and the three bytes of its head
abbrev pub start_of : ℕ → List Tlv → ℕ
start_of i tlvs = length (written (take i tlvs)) + 3

-- "its length"
abbrev pub length_of : ℕ → List Tlv → ℕ
length_of i [] = 0
length_of zero (t ∷ rest) = length t.value
length_of (suc i) (t ∷ rest) = length_of i rest

-- "With N TLVs and limit M: found, if the first TLV of that type has index i below M, count i + 1; absent, if there is none and N is
-- at most M, count N; otherwise gave up, count M"
abbrev pub lookup_by : ℕ → List Tlv → ℕ → ℕ → Lookup
lookup_by i tlvs n m =
    pick (ltb i n)
    (pick (ltb i m) (found_at (i + 1) (start_of i tlvs) (length_of i tlvs)) (without gave_up m))
    (pick (leb n m) (without absent n) (without gave_up m))

abbrev pub lookup_in : List Tlv → ℕ → ℕ → Lookup
lookup_in tlvs wanted limit = lookup_by (index_of_first wanted tlvs) tlvs (length tlvs) limit

-- what a lookup answers for every area
abbrev pub lookup_of : List ℕ → ℕ → ℕ → Lookup
lookup_of area wanted limit = pick (well_formed area) (lookup_in (tlvs_of area) wanted limit) ill_formed

-- what `lookup` promises: that answer, and that it "never examines more than the limit"
pub record LooksUp (area : List ℕ) (wanted limit : ℕ) (r : Result Examined IllFormed) : Type 0 where
  pub answers : told_lookup r ≡ lookup_of area wanted limit
  pub within : (told_lookup r).count ≤ limit
