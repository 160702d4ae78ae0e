-- Lemmas on what specs/Laws.antt defines.
use Rattle.std.specs.Prelude.{◌≡◌, refl, Bool, true, false, List, ℕ, ◌+◌, ◌≤◌, ◌<◌, min, ltb, leb, length, take, drop, Option, Some, None}
use Rattle.std.proofs.Common.{sym, ap, ◌∙◌, subst, arith, leb-true, le-leb, ltb-true, lt-ltb, length-drop, drop-drop}
use Rattle.std.proofs.lemmas.Bool.{lt-leb}
use Rattle.std.specs.Borrow.{Bor}
use Rattle.exact.specs.Pick.{pick}
use Rattle.exact.proofs.Pick.{both, second_fails}
use Rattle.tlv.specs.Tlv.{Tlv, Area, WellFormed}
use Rattle.tlv.specs.Test.{well_formed}
use Rattle.tlv.proofs.Test.{well_formed_tested, ill_formed_tested}
use Rattle.tlv.proofs.Listed.{tlvs_of_lem}
use Rattle.lookup.specs.Lookup.{Lookup, index_of_first, start_of, length_of, lookup_in, lookup_of}
use Rattle.lookup.proofs.LookupLemmas.{lookup_listed}
use Rattle.lookup.specs.First.{FirstIn}
use Rattle.lookup.proofs.First.{first_in, first_start, first_there, first_ends}
use Rattle.ssl_reader.specs.Ssl.{Part, part_of, parts_of, subs_of, accepted, is_whole, is_absent, lacks_version, nothing, client_of, verify_of, said_by, said_in}
use Rattle.ssl_reader.specs.Told.{PartOf}
use Rattle.ssl_reader.specs.Laws.{Reads, found_part}

-- ── by the sub-TLVs ──
module _ (value : List ℕ) where
  pub said_listed : 5 ≤ length value → (subs : List Tlv) → Area (drop 5 value) subs → said_in value ≡ said_by (client_of value) (verify_of value) subs
  said_listed h subs a =
      rw (le-leb 5 (length value) h, (well_formed_tested (drop 5 value)).1 (subs, a), tlvs_of_lem (drop 5 value) subs a)

  pub said_short : length value < 5 → said_in value ≡ nothing 19
  said_short h = rw (lt-leb 5 (length value) h)

  pub said_ill : (WellFormed (drop 5 value) → ⊥) → said_in value ≡ nothing 19
  said_ill not = rw (ill_formed_tested (drop 5 value) not) (second_fails (leb 5 (length value)) _ _)

-- ── what is read ──
pub accepted_reads : (value : List ℕ) → (said_in value).outcome ≡ accepted → Reads value
accepted_reads value = by (is_whole value) refl
  where
    versioned : (subs : List Tlv) → 5 ≤ length value → Area (drop 5 value) subs → (lacks : Bool)
        → lacks_version (client_of value) (is_absent (part_of 0x21 subs)) ≡ lacks
        → (pick lacks (nothing 20) (record { outcome = accepted; client = client_of value; verify = verify_of value; parts = parts_of subs })).outcome ≡ accepted
        → Reads value
    versioned subs h a true e ok = let z : ◌≡◌ {A = ℕ} 0 1 = cc in absurd (omega arith)
    versioned subs h a false e ok = record { subs = subs; long = h; area = a; version = e; said = said_listed value h subs a ∙ rw e }

    by : (whole : Bool) → is_whole value ≡ whole
        → (pick whole (said_by (client_of value) (verify_of value) (subs_of value)) (nothing 19)).outcome ≡ accepted → Reads value
    by true e ok =
        let t = both (leb 5 (length value)) (well_formed (drop 5 value)) e in
        let w = (well_formed_tested (drop 5 value)).0 t.1 in
        let listed : subs_of value ≡ w.0 = tlvs_of_lem (drop 5 value) w.0 w.1 in
        versioned w.0 (leb-true 5 (length value) t.0) w.1 (lacks_version (client_of value) (is_absent (part_of 0x21 w.0))) refl
        (subst (λ (l : List Tlv). (said_by (client_of value) (verify_of value) l).outcome ≡ accepted) listed ok)
    by false e ok = let z : ◌≡◌ {A = ℕ} 0 1 = cc in absurd (omega arith)

-- ── "the first sub-TLV's value as a part of the lent bytes" ──
module _ (type : ℕ) (subs : List Tlv) where
  -- where a part is given, it is the first sub-TLV's
  pub record Lies (value : List ℕ) (p : Part) : Type 0 where
    pub first : FirstIn type subs
    pub there : take p.size (drop p.start value) ≡ first.tlv.value
    pub beyond : 8 ≤ p.start
    pub inside : p.start + p.size ≤ length value

  abbrev the_part : Part
  the_part = record { start = 5 + start_of (index_of_first type subs) subs; size = length_of (index_of_first type subs) subs }

  lies : (value : List ℕ) → Area (drop 5 value) subs → 5 ≤ length value → FirstIn type subs → Lies value the_part
  lies value a h f =
      let s = first_start type subs f in
      let e = first_ends type subs f in
      let n = ap length a.0 in
      let m = length-drop 5 value in
      record {
        first = f;
        there = ap (take the_part.size) (sym (drop-drop (start_of (index_of_first type subs) subs) 5 value)) ∙ first_there type subs f (drop 5 value) a;
        beyond = omega arith;
        inside = omega arith;
      }

  lies_by : (value : List ℕ) → Area (drop 5 value) subs → 5 ≤ length value → (b : Bool) → ltb (index_of_first type subs) (length subs) ≡ b
      → (p : Part) → pick b (Some the_part) None ≡ Some p → Lies value p
  lies_by value a h true e p is =
      let same : the_part ≡ p = cc in rw same at (lies value a h (first_in type subs (ltb-true _ _ e)))
  lies_by value a h false e p is = let z : ◌≡◌ {A = ℕ} 0 1 = cc in absurd (omega arith)

  pub part_lies : (value : List ℕ) → Area (drop 5 value) subs → 5 ≤ length value → (p : Part) → part_of type subs ≡ Some p → Lies value p
  part_lies value a h = lies_by value a h (ltb (index_of_first type subs) (length subs)) refl

-- so of a lent value: the very part starts so far into its memory, and has the first sub-TLV's bytes
pub very_part : (value part : Bor (List ℕ)) (type : ℕ) (subs : List Tlv) (p : Part) (l : Lies type subs value.now p) → PartOf value (Some p) part
    → (part.ref_ptr.0 ≡ value.ref_ptr.0) × (part.ref_ptr.1 ≡ value.ref_ptr.1 + p.start) × (part.now ≡ l.first.tlv.value)
very_part value part type subs p l is =
    let at : min p.start (length value.now) ≡ p.start = omega (arith, l.inside) in
    (is.0, is.1 ∙ ap (λ (n : ℕ). value.ref_ptr.1 + n) at, is.2 ∙ l.there)

-- ── "lookup's first" ──
module _ (type : ℕ) (subs : List Tlv) (limit : ℕ) (all : length subs ≤ limit) where
  abbrev part_in : Lookup → Option Part
  part_in x = found_part x.outcome x

  by_lookup : (b : Bool) → ltb (index_of_first type subs) (length subs) ≡ b → part_of type subs ≡ part_in (lookup_in subs type limit)
  by_lookup true e =
      let h : index_of_first type subs < length subs = ltb-true _ _ e in rw (e, lt-ltb (index_of_first type subs) limit (omega arith))
  by_lookup false e = rw (e, le-leb (length subs) limit all)

  -- with a limit that lets a lookup examine all of them
  pub first_looked_up : (area : List ℕ) → Area area subs → part_of type subs ≡ part_in (lookup_of area type limit)
  first_looked_up area a = by_lookup (ltb (index_of_first type subs) (length subs)) refl ∙ ap part_in (sym (lookup_listed area type limit subs a))
