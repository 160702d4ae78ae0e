-- Lemmas on what specs/Callers.antt defines.
use Rattle.std.specs.Prelude.{◌≡◌, refl, Bool, true, false, List, ◌++◌, ℕ, ◌+◌, ◌-◌, ◌≤◌, ◌<◌, eqb, leb, length, take, drop}
use Rattle.std.proofs.Common.{sym, ap, ◌∙◌, subst, inl, inr, arith, leb-true, length-take, length-drop, length-take-le, get_or-take, get_or-drop, drop-drop, ext_get_or}
use Rattle.exact.specs.Claim as Claim
use Rattle.exact.specs.Pick.{pick, pick_by}
use Rattle.exact.proofs.Pick.{both}
use Rattle.tlv.specs.Tlv.{Tlv, Area}
use Rattle.tlv.specs.Test.{well_formed}
use Rattle.tlv.proofs.Test.{well_formed_tested}
use Rattle.tlv.specs.Listed.{tlvs_of}
use Rattle.tlv.proofs.Listed.{tlvs_of_lem}
use Rattle.header.specs.Header.{Header}
use Rattle.header.specs.Demand.{Judges}
use Rattle.fields.proofs.HeaderVerdict.{verdict}
use Rattle.fields.proofs.Exactness.{judges, judges_within}
use Rattle.fields.proofs.Facts.{area_last}
use Rattle.prefix_table.specs.Table.{rows_of}
use Rattle.prefix_table.specs.TableTests.{good_table}
use Rattle.unique_id.specs.UniqueId.{Value, first_value, has_id, identified, id_of}
use Rattle.unique_id.proofs.IdLaws.{the_id, id_there, id_ends, id_inside}
use Rattle.profile.specs.Profile.{Admission, admitted, more, refused, denied, Origin, local, stream, other, origin_of, if_short, by_origin, profile, source_level}
use Rattle.admission.specs.Admits.{admission_by, admission}
use Rattle.admission.specs.Callers.{IdAt, IdTold}

-- ── ""More" stays exact for the plain reader only": what a caller who waits may go by ──
-- who is admitted has a header of at most 536 bytes
abbrev Fits : (n : ℕ) → Admission → Type 0
Fits n (admitted level m start size) = n ≤ 536
Fits n (more m) = Unit {0}
Fits n (refused k p) = Unit {0}
Fits n (denied k) = Unit {0}

profile_fits : (h : Header) (n level : ℕ) → Fits n (profile h n level)
profile_fits h n level = pick_by (Fits n) (eqb h.version 2) (λ e. by_origin_lem (origin_of h.«record».kind)) (λ e. tt)
  where
    short : (a : Admission) → (n ≤ 536 → Fits n a) → Fits n (if_short n a)
    short a f = pick_by (Fits n) (leb n 536) (λ e. f (leb-true n 536 e)) (λ e. tt)

    by_origin_lem : (o : Origin) → Fits n (by_origin o h.area n level)
    by_origin_lem local = short (admitted 0 n 0 0) (λ l. l)
    by_origin_lem (stream family) = short _ (λ l. pick_by (Fits n) (identified h.area) (λ e. l) (λ e. tt))
    by_origin_lem other = tt

-- the profile never answers "more"
abbrev Decided : Admission → Type 0
Decided (admitted level n start size) = Unit {0}
Decided (more n) = ⊥
Decided (refused k p) = Unit {0}
Decided (denied k) = Unit {0}

profile_decides : (h : Header) (n level m : ℕ) → profile h n level ≡ more m → ⊥
profile_decides h n level m e = subst Decided e (pick_by Decided (eqb h.version 2) (λ v. by_origin_lem (origin_of h.«record».kind)) (λ v. tt))
  where
    by_origin_lem : (o : Origin) → Decided (by_origin o h.area n level)
    by_origin_lem local = pick_by Decided (leb n 536) (λ l. tt) (λ l. tt)
    by_origin_lem (stream family) = pick_by Decided (leb n 536) (λ l. pick_by Decided (identified h.area) (λ i. tt) (λ i. tt)) (λ l. tt)
    by_origin_lem other = tt

-- an answer "more" is the plain verdict's
pub more_plain : (table s : List ℕ) (n : ℕ) → admission table s ≡ more n → Judges (Claim.more n) s
more_plain table s n e = by (good_table table) (verdict s) (judges s) e
  where
    by : (b : Bool) (v : Claim.Verdict Header) → Judges v s → pick b (admission_by (rows_of table) v) (denied 34) ≡ more n → Judges (Claim.more n) s
    by false v j is = let z : ◌≡◌ {A = ℕ} 0 1 = cc in absurd (omega arith)
    by true (Claim.accepted h k) j is = absurd (profile_decides h k _ n is)
    by true (Claim.more k) j is = let same : k ≡ n = cc in subst (λ (m : ℕ). Judges (Claim.more m) s) same j
    by true (Claim.refused k p) j is = let z : ◌≡◌ {A = ℕ} 0 1 = cc in absurd (omega arith)

-- where the bytes so far and what "more" asks for are together over 536, no continuation is admitted
pub too_long : (table s t : List ℕ) (n : ℕ) → admission table s ≡ more n → 536 < length s + n
    → (level m start size : ℕ) → admission table (s ++ t) ≡ admitted level m start size → ⊥
too_long table s t n begun long level m start size e = by (good_table table) (verdict (s ++ t)) (judges (s ++ t)) e
  where
    never_admitted : {a : Admission} → Fits (536 + 1) a → a ≡ admitted level m start size → ⊥
    never_admitted f is = let h = subst (Fits (536 + 1)) is f in omega arith

    by : (b : Bool) (v : Claim.Verdict Header) → Judges v (s ++ t) → pick b (admission_by (rows_of table) v) (denied 34) ≡ admitted level m start size → ⊥
    by false v j is = never_admitted tt is
    by true (Claim.accepted h k) j is =
        let within = judges_within s t n k h (more_plain table s n begun) j in
        let fits = subst (Fits k) is (profile_fits h k (source_level (rows_of table) (origin_of h.«record».kind) h.«record».source)) in
        omega arith
    by true (Claim.more k) j is = never_admitted tt is
    by true (Claim.refused k p) j is = never_admitted tt is

-- ── "start and length of the 0x05 value in the bytes" ──
-- of a header with the only TLV 0x05, where its first value is counted from in the bytes there it is
id_in_bytes : (s : List ℕ) (h : Header) (n : ℕ) → Judges (Claim.accepted h n) s → (tlvs : List Tlv) → Area h.area tlvs → (has : has_id tlvs ≡ true)
    → take (first_value tlvs).size (drop (n - length h.area + (first_value tlvs).start) s) ≡ (the_id tlvs has).tlv.value
id_in_bytes s h n j tlvs a has =
    let header : List ℕ = take n s in
    let v : Value = first_value tlvs in
    let size : length header ≡ n = length-take-le n s j.0 in
    let ends = id_ends tlvs has in
    let area = ap length a.0 in
    let at : ℕ = n - length h.area in
    let last : drop at header ≡ h.area = ap (λ (k : ℕ). drop (k - length h.area) header) (sym size) ∙ area_last header h j.1 in
    let inside = ap length last in
    let dropped = length-drop at header in
    let place : at + v.start + v.size ≤ n = omega arith in
    sym (part_of n s (at + v.start) v.size place)
    ∙ ap (take v.size) (sym (drop-drop v.start at header) ∙ ap (drop v.start) last)
    ∙ id_there tlvs has h.area a
  where
    -- a part of the first n bytes is a part of all
    part_of : (n : ℕ) (s : List ℕ) (i m : ℕ) → i + m ≤ n → take m (drop i (take n s)) ≡ take m (drop i s)
    part_of n s i m le =
        ext_get_or 0 _ _ (simp (length-take, length-drop) (omega arith))
        (λ k h.
        let l = simp (length-take, length-drop) at h in
        get_or-take m (drop i (take n s)) k 0 (omega arith)
        ∙ get_or-drop i (take n s) k 0
        ∙ get_or-take n s (i + k) 0 (omega arith)
        ∙ sym (get_or-take m (drop i s) k 0 (omega arith) ∙ get_or-drop i s k 0))

pub id_told : (table s : List ℕ) → IdTold s (admission table s)
id_told table s = pick_by (IdTold s) (good_table table) (λ e. by (verdict s) (judges s)) (λ e. tt)
  where
    at_area : (h : Header) (n : ℕ) → Judges (Claim.accepted h n) s → identified h.area ≡ true
        → IdAt s n (n - length h.area + (id_of h.area).start) (id_of h.area).size
    at_area h n j e =
        let t = both (well_formed h.area) (has_id (tlvs_of h.area)) e in
        let f = (well_formed_tested h.area).0 t.0 in
        let listed = subst (Area h.area) (sym (tlvs_of_lem h.area f.0 f.1)) f.1 in
        let size : length (take n s) ≡ n = length-take-le n s j.0 in
        let last = ap length (area_last (take n s) h j.1) in
        let dropped = length-drop (length (take n s) - length h.area) (take n s) in
        let within = id_inside h.area e in
        record {
          header = h;
          is = j;
          tlvs = tlvs_of h.area;
          listed = listed;
          has = t.1;
          there = id_in_bytes s h n j (tlvs_of h.area) listed t.1;
          inside = omega arith;
        }

    of_profile : (h : Header) (n level : ℕ) → Judges (Claim.accepted h n) s → IdTold s (profile h n level)
    of_profile h n level j = pick_by (IdTold s) (eqb h.version 2) (λ e. by_origin_lem (origin_of h.«record».kind) refl) (λ e. tt)
      where
        short : (a : Admission) → IdTold s a → IdTold s (if_short n a)
        short a t = pick_by (IdTold s) (leb n 536) (λ e. t) (λ e. tt)

        by_origin_lem : (o : Origin) → origin_of h.«record».kind ≡ o → IdTold s (by_origin o h.area n level)
        by_origin_lem local is = short (admitted 0 n 0 0) (inl (record { header = h; is = j; is_local = is; no_start = refl; no_size = refl }))
        by_origin_lem (stream family) is = short _ (pick_by (IdTold s) (identified h.area) (λ e. inr (at_area h n j e)) (λ e. tt))
        by_origin_lem other is = tt

    by : (v : Claim.Verdict Header) → Judges v s → IdTold s (admission_by (rows_of table) v)
    by (Claim.accepted h n) j = of_profile h n _ j
    by (Claim.more n) j = tt
    by (Claim.refused k p) j = tt
