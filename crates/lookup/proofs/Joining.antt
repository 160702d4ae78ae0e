-- Lemmas on what specs/Joining.antt defines.
use Rattle.std.specs.Prelude.{◌≡◌, refl, Bool, true, false, List, [], ◌∷◌, ◌++◌, ℕ, ◌+◌, ◌-◌, ◌≤◌, ◌<◌, ltb, leb, length, Result}
use Rattle.std.proofs.Common.{sym, ap, ap₂, ◌∙◌, append-nil, append_assoc, arith, leb-true}
use Rattle.exact.specs.Pick.{pick}
use Rattle.tlv.specs.Tlv.{Tlv, written, Area, WellFormed}
use Rattle.tlv.proofs.Laws.{area_append, area_behind}
use Rattle.tlv.specs.Listed.{tlvs_of}
use Rattle.tlv.proofs.Listed.{tlvs_of_lem}
use Rattle.tlv.proofs.Heads.{size_room}
use Rattle.lookup.specs.Lookup.{Finding, found, absent, gave_up, refused, Lookup, told_finding, told_lookup, found_at, without, index_of_first, start_of, length_of, lookup_in, ill_formed, lookup_of, LooksUp}
use Rattle.lookup.proofs.LookupLemmas.{lookup_listed, lookup_refused}
use Rattle.lookup.proofs.JoinedLists.{one_in_first, none_examined, none_in_first}
use Rattle.lookup.specs.declared.Examined.{Examined}
use Rattle.tlv_step.specs.declared.IllFormed.{IllFormed}
use Rattle.lookup.specs.Joining.{Joins, behind, first_or, joined}

join_area : (f g : List ℕ) (x : WellFormed f) (y : WellFormed g) → Area (f ++ g) (x.0 ++ y.0)
join_area f g x y = area_append f g x.0 y.0 x.1 y.1

-- ── 1. "the join is well-formed" ──
pub join_well_formed : (f g : List ℕ) → WellFormed f → WellFormed g → WellFormed (f ++ g)
join_well_formed f g x y = (x.0 ++ y.0, join_area f g x y)

-- ── 2. "its TLV list is the two lists joined" ──
pub join_list : (f g : List ℕ) → WellFormed f → WellFormed g → tlvs_of (f ++ g) ≡ tlvs_of f ++ tlvs_of g
join_list f g x y =
    tlvs_of_lem (f ++ g) (x.0 ++ y.0) (join_area f g x y)
    ∙ sym (ap₂ ◌++◌ (tlvs_of_lem f x.0 x.1) (tlvs_of_lem g y.0 y.1))

-- ── 3. "joining is associative with the empty area neutral": of areas, lists of bytes, and of their lists of TLVs ──
joins : {A : Type 0} → Joins A
joins = record { associative = append_assoc; empty_first = λ x. refl; empty_last = append-nil }

pub areas_join : Joins ℕ
areas_join = joins

pub lists_join : Joins Tlv
lists_join = joins

-- the empty area is one, and its list is the empty list
pub empty_area : WellFormed []
empty_area = ([], (refl, tt))

pub empty_list : tlvs_of [] ≡ []
empty_list = refl

-- ── 4. lookup in a join ──
-- first, of lists of TLVs
module _ (a b : List Tlv) (wanted limit : ℕ) where
  abbrev i : ℕ
  i = index_of_first wanted a

  abbrev j : ℕ
  j = index_of_first wanted b

  abbrev n : ℕ
  n = length a

  abbrev joined_with : Lookup → Lookup
  joined_with first = joined first (length (written a)) (lookup_in b wanted) limit

  first_kept : (c : Bool) (k s l : ℕ) → pick c (found_at k s l) (without gave_up limit) ≡ joined_with (pick c (found_at k s l) (without gave_up limit))
  first_kept true k s l = refl
  first_kept false k s l = refl

  second_moved : (m : ℕ) (p q r : Bool)
      → pick p (pick q (found_at (n + (j + 1)) (length (written a) + start_of j b) (length_of j b)) (without gave_up (n + m))) (pick r (without absent (n + length b)) (without gave_up (n + m)))
      ≡ behind n (length (written a)) (pick p (pick q (found_at (j + 1) (start_of j b) (length_of j b)) (without gave_up m)) (pick r (without absent (length b)) (without gave_up m)))
  second_moved m true true r = refl
  second_moved m true false r = refl
  second_moved m false q true = refl
  second_moved m false q false = refl

  by_tests : (p q : Bool) → ltb i n ≡ p → leb n limit ≡ q → lookup_in (a ++ b) wanted limit ≡ joined_with (lookup_in a wanted limit)
  by_tests true q e f = one_in_first a b wanted limit e ∙ rw e (first_kept (ltb i limit) (i + 1) (start_of i a) (length_of i a))
  by_tests false false e f = none_examined a b wanted limit e f ∙ rw (e, f)
  by_tests false true e f =
      let h : n ≤ limit = leb-true n limit f in
      let left : limit ≡ n + (limit - n) = omega arith in
      let here : lookup_in a wanted limit ≡ without absent n = rw (e, f) in
      ap (lookup_in (a ++ b) wanted) left
      ∙ none_in_first a b wanted (limit - n) e
      ∙ second_moved (limit - n) (ltb j (length b)) (ltb j (limit - n)) (leb (length b) (limit - n))
      ∙ sym (ap joined_with here)

  pub lookup_joined : lookup_in (a ++ b) wanted limit ≡ joined (lookup_in a wanted limit) (length (written a)) (lookup_in b wanted) limit
  lookup_joined = by_tests (ltb i n) (leb n limit) refl refl

-- for every type and limit
pub lookup_join : (f g : List ℕ) → WellFormed f → WellFormed g → (wanted limit : ℕ)
    → lookup_of (f ++ g) wanted limit ≡ joined (lookup_of f wanted limit) (length f) (lookup_of g wanted) limit
lookup_join f g x y wanted limit =
    lookup_listed (f ++ g) wanted limit (x.0 ++ y.0) (join_area f g x y)
    ∙ lookup_joined x.0 y.0 wanted limit
    ∙ (λ k.
    joined (sym (lookup_listed f wanted limit x.0 x.1) k) (length (sym x.1.0 k)) (λ m. sym (lookup_listed g wanted m y.0 y.1) k) limit)

-- another matters only where the first is absent
other_if_absent : (x : Finding) (first one another : Lookup) → (x ≡ absent → one ≡ another) → first_or x first one ≡ first_or x first another
other_if_absent found first one another e = refl
other_if_absent absent first one another e = e refl
other_if_absent gave_up first one another e = refl
other_if_absent (refused number) first one another e = refl

-- so of calls of `lookup`: in the first, where that is absent in the second with what is left of the limit, and in the join
pub calls_join : (f g : List ℕ) → WellFormed f → WellFormed g → (wanted limit : ℕ) (r s t : Result Examined IllFormed)
    → LooksUp f wanted limit r → (told_finding r ≡ absent → LooksUp g wanted (limit - (told_lookup r).count) s) → LooksUp (f ++ g) wanted limit t
    → told_lookup t ≡ first_or (told_finding r) (told_lookup r) (behind (told_lookup r).count (length f) (told_lookup s))
calls_join f g x y wanted limit r s t in-first in-second in-join =
    in-join.answers
    ∙ lookup_join f g x y wanted limit
    ∙ ap (λ (first : Lookup). joined first (length f) (lookup_of g wanted) limit) (sym in-first.answers)
    ∙ other_if_absent (told_finding r) (told_lookup r) _ _ (λ e. ap (behind (told_lookup r).count (length f)) (sym (in-second e).answers))

-- ── 5. "If the first part and the join are well-formed, so is the second" ──
pub second_well_formed : (f g : List ℕ) → WellFormed f → WellFormed (f ++ g) → WellFormed g
second_well_formed f g x w = let r = area_behind f g x.0 w.0 x.1 w.1 in (r.0, r.2)

-- ── what does not follow ──
-- behind the head of a TLV with a value of three bytes, three bytes are that value
abbrev cut : List ℕ
cut = 4 ∷ 0 ∷ 3 ∷ []

cut_ill_formed : WellFormed cut → ⊥
cut_ill_formed w = let room = size_room cut 0 w.0 (omega arith) w.1 in omega arith

cut_joined : (a b c : ℕ) → a < 256 → b < 256 → c < 256 → WellFormed (cut ++ a ∷ b ∷ c ∷ [])
cut_joined a b c x y z = (record { type = 4; value = a ∷ b ∷ c ∷ [] } ∷ [], (refl, (omega arith, (x, (y, (z, tt))), omega arith, tt)))

-- that the first part is well-formed, from the second and the join
abbrev whole : List ℕ
whole = 1 ∷ 0 ∷ 0 ∷ []

pub first_not_well_formed : WellFormed whole × WellFormed (cut ++ whole) × (WellFormed cut → ⊥)
first_not_well_formed = (
  (record { type = 1; value = [] } ∷ [], (refl, (omega arith, tt, omega arith, tt))),
  cut_joined 1 0 0 (omega arith) (omega arith) (omega arith),
  cut_ill_formed,
)

-- that the second is, from the join alone
abbrev short : List ℕ
short = 1 ∷ 0 ∷ 1 ∷ []

pub neither_well_formed : WellFormed (cut ++ short) × (WellFormed cut → ⊥) × (WellFormed short → ⊥)
neither_well_formed = (
  cut_joined 1 0 1 (omega arith) (omega arith) (omega arith),
  cut_ill_formed,
  λ w. let room = size_room short 0 w.0 (omega arith) w.1 in omega arith,
)
