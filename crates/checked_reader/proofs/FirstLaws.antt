-- The first 0x03 TLV of an area: how a lookup finds it, and what it says of the header.
use Rattle.std.specs.Prelude.{Result, Option, Some, None as nothing}
use mathlib.Core.Path.{◌≡◌, refl, sym, ap, ap₂, ◌∙◌, subst}
use mathlib.Core.Bool.{Bool, true, false}
use mathlib.Core.List.{List, [], ◌∷◌, ◌++◌, append_assoc}
use mathlib.Core.Logic.{◌⊎◌, inl, inr, ⊎_elim}
use Prim.Native.Nat.{ℕ, suc, ◌+◌, ◌-◌, ◌≤◌, ◌<◌}
use native.Mathlib.Omega.{arith}
use borrow.Author.Tests.{eqb-true, eqb-false, le-leb, le-ltb}
use lib.Dec.{eqb}
use lib.ListN.{length, take, drop, replicate, length-append}
use lib.Seq.{take_at, drop_at}
use Rattle.exact.specs.Pick.{pick, pick_by}
use Rattle.exact.specs.Network.{network}
use Rattle.lent.specs.Same.{same}
use Rattle.tlv.specs.Tlv.{Tlv, tlv_bytes, written, Area, WellFormed}
use Rattle.tlv.proofs.Laws.{written-append, area_rest}
use Rattle.tlv.specs.Test.{well_formed}
use Rattle.tlv.proofs.Test.{well_formed_tested}
use Rattle.tlv.specs.Listed.{tlvs_of}
use Rattle.tlv.proofs.Listed.{tlvs_of_lem, few}
use Rattle.tlv.proofs.Heads.{head_rest}
use Rattle.crc.specs.Crc.{checksum, stored, cleared}
use Rattle.lookup.specs.declared.Examined.{Examined}
use Rattle.tlv_step.specs.declared.IllFormed.{IllFormed}
use Rattle.lookup.specs.Lookup.{found, absent, Lookup, found_at, without, told_finding, told_lookup, index_of_first, lookup_in, ill_formed, LooksUp}
use Rattle.lookup.proofs.LookupLemmas.{lookup_listed}
use Rattle.lookup.proofs.Laws.{first_counts}
use Rattle.tlv_count.specs.Count.{count_of, none_test}
use Rattle.record.specs.declared.Checksum.{Checksum}
use Rattle.record.specs.declared.Checksum.TheVariants.{Absent, Matched}
use Rattle.checksum.specs.Checksum.{values_of, zeroed, checksum_of, Wrong, not_four, several}
use Rattle.checksum.proofs.ChecksumLaws.{values_append, count_values, no_values, values_first, zeroed_one, checksum_parts}
use Rattle.checksum.specs.State.{state_by, state_in, no_checksum, wrong}
use Rattle.checksum.proofs.State.{means_one}
use Rattle.checked_reader.specs.First.{LastPart, First, FirstAt}

-- ── the first TLV of a type ──
module _ (type : ℕ) where
  first_at_end : (tlvs : List Tlv) → values_of type tlvs ≡ [] → index_of_first type tlvs ≡ length tlvs
  first_at_end [] e = refl
  first_at_end (t ∷ rest) e = by (eqb t.type type) e (first_at_end rest)
    where
      by : (c : Bool) → pick c (t.value ∷ values_of type rest) (values_of type rest) ≡ [] → (values_of type rest ≡ [] → index_of_first type rest ≡ length rest)
          → pick c 0 (suc (index_of_first type rest)) ≡ suc (length rest)
      by true e again = let n = ap length e in absurd (omega arith)
      by false e again = ap suc (again e)

  first_or_none : (tlvs : List Tlv) → (values_of type tlvs ≡ []) ⊎ First type tlvs
  first_or_none [] = inl refl
  first_or_none (t ∷ rest) = by (eqb t.type type) refl (first_or_none rest)
    where
      by : (c : Bool) → eqb t.type type ≡ c → (values_of type rest ≡ []) ⊎ First type rest
          → (pick c (t.value ∷ values_of type rest) (values_of type rest) ≡ []) ⊎ First type (t ∷ rest)
      by true e x = inr (record { before = []; tlv = t; after = rest; split = refl; is = eqb-true _ _ e; none = refl })
      by false e (inl n) = inl n
      by false e (inr f) =
          inr
          (record {
            before = t ∷ f.before;
            tlv = f.tlv;
            after = f.after;
            split = ap (λ (l : List Tlv). t ∷ l) f.split;
            is = f.is;
            none = rw e f.none;
          })

-- ── what a lookup answers ──
module _ (area : List ℕ) (tlvs : List Tlv) (a : Area area tlvs) (r : Result Examined IllFormed) (told : told_lookup r ≡ lookup_in tlvs 0x03 (length area)) where
  enough : length tlvs ≤ length area
  enough = let n = few tlvs in let e = ap length a.0 in omega arith

  none_found : values_of 0x03 tlvs ≡ [] → told_lookup r ≡ without absent (length tlvs)
  none_found none =
      told
      ∙ simp (first_at_end 0x03 tlvs none, le-ltb (length tlvs) (length tlvs) (omega arith), le-leb (length tlvs) (length area) enough)

  one_found : (f : First 0x03 tlvs) → told_lookup r ≡ found_at (length f.before + 1) (length (written f.before) + 3) (length f.tlv.value)
  one_found f =
      let size : length f.before < length area =
      let n = enough in let e = ap length f.split in let m = length-append f.before (f.tlv ∷ f.after) in omega arith
      in
      told
      ∙ ap₂ (λ (l : List Tlv) (w : ℕ). lookup_in l w (length area)) f.split (sym f.is)
      ∙ first_counts f.before f.tlv f.after (length area)
      (ap (λ (w : ℕ). index_of_first w f.before) f.is ∙ first_at_end 0x03 f.before f.none) size

  -- where it finds none there is none
  absent_state : (header : List ℕ) → (told_finding r ≡ found → ⊥) → state_in header (tlvs_of area) ≡ Some Absent
  absent_state header other =
      ap (state_in header) (tlvs_of_lem area tlvs a)
      ∙ ⊎_elim (λ none. means_one header tlvs (Some Absent) (no_checksum none)) (λ f. absurd (other (ap (λ (l : Lookup). l.outcome) (one_found f))))
      (first_or_none 0x03 tlvs)

  -- and what it finds is the first
  found_first : (header : List ℕ) → LastPart header area → told_finding r ≡ found → FirstAt header area (told_lookup r).start (told_lookup r).length
  found_first header last is =
      ⊎_elim
      (λ none. let e = sym is ∙ ap (λ (l : Lookup). l.outcome) (none_found none) in let z : ◌≡◌ {A = ℕ} 0 1 = cc in absurd (omega arith))
      (λ f.
      let e = one_found f in
      record {
        whole = last;
        tlvs = tlvs;
        listed = a;
        first = f;
        starts = ap (λ (l : Lookup). l.start) e;
        sized = ap (λ (l : Lookup). l.length) e;
      })
      (first_or_none 0x03 tlvs)

-- ── whatever the area is ──
module _ (area : List ℕ) (r : Result Examined IllFormed) (looks : LooksUp area 0x03 (length area) r) (header : List ℕ) where
  -- the state of the header that ends with it
  abbrev here : Option Checksum
  here = pick (well_formed area) (state_in header (tlvs_of area)) (Some Absent)

  pub fills : told_finding r ≡ found → WellFormed area
  fills is = by (well_formed area) refl
    where
      by : (b : Bool) → well_formed area ≡ b → WellFormed area
      by true e = (well_formed_tested area).0 e
      by false e =
          let told : told_lookup r ≡ ill_formed = rw e at looks.answers in
          let other = sym is ∙ ap (λ (l : Lookup). l.outcome) told in
          let z : ◌≡◌ {A = ℕ} 0 1 = cc in absurd (omega arith)

  listed_here : (w : WellFormed area) → told_lookup r ≡ lookup_in w.0 0x03 (length area)
  listed_here w = looks.answers ∙ lookup_listed area 0x03 (length area) w.0 w.1

  pub found_here : LastPart header area → told_finding r ≡ found → FirstAt header area (told_lookup r).start (told_lookup r).length
  found_here last is = let w = fills is in found_first area w.0 w.1 r (listed_here w) header last is

  pub filled_here : WellFormed area → state_in header (tlvs_of area) ≡ here
  filled_here w = ap (λ (b : Bool). pick b (state_in header (tlvs_of area)) (Some Absent)) (sym ((well_formed_tested area).1 w))

  pub absent_here : (told_finding r ≡ found → ⊥) → Some Absent ≡ here
  absent_here other =
      pick_by (λ (x : Option Checksum). Some Absent ≡ x) (well_formed area)
      (λ e. let w = (well_formed_tested area).0 e in sym (absent_state area w.0 w.1 r (listed_here w) header other))
      (λ e. refl)

-- ── what the first says ──
module _ (header area : List ℕ) (start size : ℕ) (f : FirstAt header area start size) where
  abbrev before : List Tlv
  before = f.first.before

  abbrev t : Tlv
  t = f.first.tlv

  abbrev after : List Tlv
  after = f.first.after

  abbrev body : List ℕ
  body = f.whole.0

  listed : tlvs_of area ≡ before ++ t ∷ after
  listed = tlvs_of_lem area f.tlvs f.listed ∙ f.first.split

  area_parts : area ≡ written before ++ written (t ∷ after)
  area_parts = f.listed.0 ∙ ap written f.first.split ∙ written-append before (t ∷ after)

  values : values_of 0x03 (tlvs_of area) ≡ t.value ∷ values_of 0x03 after
  values =
      ap (values_of 0x03) listed
      ∙ values_append 0x03 before (t ∷ after)
      ∙ ap₂ (λ (x y : List (List ℕ)). x ++ y) f.first.none (values_first t after 0x03 f.first.is)

  -- what follows it
  rest : Area (drop (length (written before) + 3 + length t.value) area) after
  rest =
      head_rest area (length (written before)) t after (area_rest area before (t ∷ after) (subst (Area area) f.first.split f.listed))

  pub behind_it : Area (drop (start + size) area) after
  behind_it =
      let e : start + size ≡ length (written before) + 3 + length t.value = omega (arith, f.starts, f.sized) in
      subst (λ (n : ℕ). Area (drop n area) after) (sym e) rest

  pub inside : start + size ≤ length area
  inside =
      let e = ap length area_parts in
      let g = length-append (written before) (written (t ∷ after)) in
      let h = length-append t.value (written after) in
      omega (arith, f.starts, f.sized)

  pub within : length area ≤ length header
  within = let e = ap length f.whole.1 in let g = length-append body area in omega arith

  -- whether another follows
  none_follows : none_test 0x03 (drop (start + size) area) ≡ eqb (count_of 0x03 after) 0
  none_follows = rw ((well_formed_tested (drop (start + size) area)).1 (after, behind_it), tlvs_of_lem (drop (start + size) area) after behind_it)

  -- "several 0x03 TLVs"
  pub another : none_test 0x03 (drop (start + size) area) ≡ false → state_in header (tlvs_of area) ≡ nothing
  another e =
      let some_left = eqb-false (count_of 0x03 after) 0 (sym none_follows ∙ e) in
      means_one header (tlvs_of area) nothing
      (wrong (several (by (values_of 0x03 after) refl (λ z. some_left (sym (count_values 0x03 after) ∙ ap length z)))))
    where
      by : (l : List (List ℕ)) → values_of 0x03 after ≡ l → (l ≡ [] → ⊥) → 2 ≤ length (values_of 0x03 (tlvs_of area))
      by [] e n = absurd (n refl)
      by (x ∷ l) e n = let m = ap length values in let k = ap length e in omega arith

  -- "a 0x03 value that is not 4 bytes"
  pub odd_size : (size ≡ 4 → ⊥) → state_in header (tlvs_of area) ≡ nothing
  odd_size other =
      means_one header (tlvs_of area) nothing (wrong (by (values_of 0x03 after) refl))
    where
      by : (l : List (List ℕ)) → values_of 0x03 after ≡ l → Wrong header (tlvs_of area)
      by [] e = not_four t.value (values ∙ ap (λ (l : List (List ℕ)). t.value ∷ l) e) (λ n. other (f.sized ∙ n))
      by (x ∷ l) e = several (let m = ap length values in let k = ap length e in omega arith)

  -- one value of four bytes
  module _ (four : size ≡ 4) (sole : none_test 0x03 (drop (start + size) area) ≡ true) (at : ℕ) (place : at ≡ length header - length area + start) where
    no_more : values_of 0x03 after ≡ []
    no_more =
        no_values (values_of 0x03 after) (count_values 0x03 after ∙ eqb-true (count_of 0x03 after) 0 (sym none_follows ∙ sole))

    abbrev head : List ℕ
    head = t.type ∷ network (length t.value)

    abbrev front : List ℕ
    front = body ++ written before ++ head

    parts : header ≡ front ++ t.value ++ written after
    parts =
        f.whole.1
        ∙ ap (λ (l : List ℕ). body ++ l) area_parts
        ∙ simp append_assoc

    front_size : length front ≡ at
    front_size =
        let e = ap length f.whole.1 in
        let g = length-append body area in
        let h = length-append body (written before) in
        let k = length-append (body ++ written before) head in
        omega (arith, f.starts, place)

    value_size : length t.value ≡ 4
    value_size = sym f.sized ∙ four

    the_value : take 4 (drop at header) ≡ t.value
    the_value =
        ap (λ (l : List ℕ). take 4 (drop at l)) (parts ∙ append_assoc front t.value (written after))
        ∙ ap (take 4) (drop_at front (t.value ++ written after) at front_size)
        ∙ take_at t.value (written after) 4 value_size

    taken_as_zero : cleared at header ≡ front ++ replicate 4 0 ++ written after
    unfolding cleared
    taken_as_zero =
        let size : length (front ++ t.value) ≡ at + 4 = let e = length-append front t.value in omega (arith, front_size, value_size) in
        ap₂ (λ (x y : List ℕ). x ++ replicate 4 0 ++ y)
        (ap (take at) (parts ∙ append_assoc front t.value (written after)) ∙ take_at front (t.value ++ written after) at front_size)
        (ap (drop (at + 4)) parts ∙ drop_at (front ++ t.value) (written after) (at + 4) size)

    -- the same by its TLVs
    zeros_written : body ++ written (zeroed (tlvs_of area)) ≡ front ++ replicate 4 0 ++ written after
    zeros_written =
        let zeros : ℕ → List ℕ = λ (n : ℕ). body ++ (written before ++ (tlv_bytes t.type (replicate n 0) ++ written after)) in
        let assoc : zeros 4 ≡ (body ++ written before ++ (t.type ∷ network 4)) ++ replicate 4 0 ++ written after = simp append_assoc in
        ap (λ (l : List Tlv). body ++ written l) (ap zeroed listed ∙ zeroed_one before after t f.first.none no_more f.first.is)
        ∙ ap (λ (l : List ℕ). body ++ l) (written-append before _)
        ∙ ap zeros value_size
        ∙ assoc
        ∙ ap (λ (n : ℕ). (body ++ written before ++ (t.type ∷ network n)) ++ replicate 4 0 ++ written after) (sym value_size)

    the_sum : checksum_of header (tlvs_of area) ≡ stored (checksum (cleared at header))
    the_sum =
        let again : area ≡ written (tlvs_of area) = f.listed.0 ∙ ap written (sym (tlvs_of_lem area f.tlvs f.listed)) in
        ap (λ (l : List ℕ). checksum_of l (tlvs_of area)) (f.whole.1 ∙ ap (λ (l : List ℕ). body ++ l) again)
        ∙ checksum_parts body (tlvs_of area)
        ∙ ap (λ (l : List ℕ). stored (checksum l)) (zeros_written ∙ sym taken_as_zero)

    pub one_value : state_in header (tlvs_of area) ≡ pick (same (take 4 (drop at header)) (stored (checksum (cleared at header)))) (Some Matched) nothing
    one_value =
        ap (λ (l : List (List ℕ)). state_by l (checksum_of header (tlvs_of area))) (values ∙ ap (λ (l : List (List ℕ)). t.value ∷ l) no_more)
        ∙ ap₂ (λ (x y : List ℕ). pick (same x y) (Some Matched) nothing) (sym the_value) the_sum
