-- What holds of checked readings of all bytes (document 02, K6): one answer is claimed, and bytes that follow never change an acceptance or refusal.
use Rattle.std.specs.Prelude.{◌≡◌, refl, List, [], ◌++◌, ◌⊎◌, ℕ, length, take, Option, Some, None}
use Rattle.std.proofs.Common.{sym, ap, ◌∙◌, subst, inl, inr, ⊎_elim, arith}
use Rattle.std.proofs.lemmas.List.{take-append-le}
use Rattle.exact.specs.Claim.{Verdict, accepted, more, refused}
use Rattle.tlv.specs.Tlv.{Tlv}
use Rattle.tlv.specs.Listed.{tlvs_of}
use Rattle.record.specs.declared.Kind.{Kind}
use Rattle.record.specs.declared.Kind.TheVariants.{Local, Unspecified, Ip4, Ip6, Unix}
use Rattle.record.specs.declared.Checksum.{Checksum}
use Rattle.record.specs.declared.Checksum.TheVariants.{Absent, Matched}
use Rattle.header.specs.Block.{HasAddresses}
use Rattle.header.specs.Header.{Header, Whole}
use Rattle.header.specs.Demand.{Judges}
use Rattle.fields.proofs.HeaderVerdict.{verdict}
use Rattle.fields.proofs.Exactness.{judges, judges_only, judges_stays}
use Rattle.fields.proofs.Facts.{area_empty, record_plain}
use Rattle.checksum.specs.Checksum.{values_of, Right, Wrong, differs, not_four, several}
use Rattle.checksum.specs.Checked.{CheckedVerdict, judged, refuses, tlvs_in, OfAddressKind, in_state, Checks, wrong, matched, absent, unfinished, no_header}
use Rattle.checksum.specs.State.{state_in, Means, no_checksum, right, wrong as is-wrong, by_state, state_on, checked_by, checked_verdict}
use Rattle.checksum.proofs.State.{state_means, means_one}

-- ── the record ──
-- the plain reader's state "is always absent": a whole header with that state is itself
pub plain_absent : (f : List ℕ) (h : Header) → Whole f h → in_state Absent h ≡ h
plain_absent f h w =
    ap (λ (c : Checksum). in_state c h) (sym (record_plain f h w).0.absent)

-- ── the kind ──
either : (k : Kind) → HasAddresses k ⊎ (HasAddresses k → ⊥)
either Local = inr (λ x. x)
either Unspecified = inr (λ x. x)
either (Ip4 t) = inl tt
either (Ip6 t) = inl tt
either (Unix t) = inl tt

module _ (f : List ℕ) (h : Header) (w : Whole f h) where
  -- no other kind has TLVs
  none_beside : (OfAddressKind h → ⊥) → values_of 0x03 (tlvs_in h) ≡ []
  none_beside not = ap (λ (area : List ℕ). values_of 0x03 (tlvs_of area)) (area_empty f h w (inr not))

  of_address_kind : (values_of 0x03 (tlvs_in h) ≡ [] → ⊥) → OfAddressKind h
  of_address_kind some-values = ⊎_elim (λ has. has) (λ not. absurd (some-values (none_beside not))) (either h.«record».kind)

  without : (OfAddressKind h → values_of 0x03 (tlvs_in h) ≡ []) → values_of 0x03 (tlvs_in h) ≡ []
  without e = ⊎_elim e none_beside (either h.«record».kind)

-- ── the answer is one that is claimed ──
module _ (f : List ℕ) (tlvs : List Tlv) where
  right_some : Right f tlvs → values_of 0x03 tlvs ≡ [] → ⊥
  right_some r e = let m : ◌≡◌ {A = ℕ} 1 0 = ap length (sym r ∙ e) in omega arith

  wrong_some : Wrong f tlvs → values_of 0x03 tlvs ≡ [] → ⊥
  wrong_some (differs value v n) e = let m : ◌≡◌ {A = ℕ} 1 0 = ap length (sym v ∙ e) in omega arith
  wrong_some (not_four value v n) e = let m : ◌≡◌ {A = ℕ} 1 0 = ap length (sym v ∙ e) in omega arith
  wrong_some (several n) e = let m = ap length e in omega arith

pub checks : (s : List ℕ) → Checks s (checked_verdict s)
checks s = by (verdict s) (judges s)
  where
    by_state_lem : (h : Header) (n : ℕ) → Judges (accepted h n) s → (x : Option Checksum) → Means (take n s) (tlvs_in h) x → Checks s (by_state h n x)
    by_state_lem h n j (Some Absent) (no_checksum e) =
        subst (λ (g : Header). Checks s (judged (accepted g n))) (sym (plain_absent (take n s) h j.1)) (absent h n j (λ has. e))
    by_state_lem h n j (Some Matched) (right r) = matched h n j (of_address_kind (take n s) h j.1 (right_some (take n s) (tlvs_in h) r)) r
    by_state_lem h n j None (is-wrong w) = wrong h n j (of_address_kind (take n s) h j.1 (wrong_some (take n s) (tlvs_in h) w)) w

    by : (v : Verdict Header) → Judges v s → Checks s (checked_by v (state_on s v))
    by (accepted h n) j = by_state_lem h n j (state_in (take n s) (tlvs_in h)) (state_means (take n s) (tlvs_in h))
    by (more n) j = unfinished n j
    by (refused k p) j = no_header k p j

-- no other is
pub checks_only : (s : List ℕ) (v : CheckedVerdict) → Checks s v → v ≡ checked_verdict s
checks_only s v c = by v c
  where
    told : (w : Verdict Header) → Judges w s → checked_by w (state_on s w) ≡ checked_verdict s
    told w j = ap (λ (x : Verdict Header). checked_by x (state_on s x)) (judges_only w s j)

    state : (h : Header) (n : ℕ) → Judges (accepted h n) s → (x : Option Checksum) → Means (take n s) (tlvs_in h) x → by_state h n x ≡ checked_verdict s
    state h n j x m = ap (by_state h n) (sym (means_one (take n s) (tlvs_in h) x m)) ∙ told (accepted h n) j

    by : (v : CheckedVerdict) → Checks s v → v ≡ checked_verdict s
    by (refuses _) (wrong h n j kind w) = state h n j None (is-wrong w)
    by (judged _) (matched h n j kind r) = state h n j (Some Matched) (right r)
    by (judged _) (absent h n j e) =
        ap (λ (g : Header). judged (accepted g n)) (sym (plain_absent (take n s) h j.1))
        ∙ state h n j (Some Absent) (no_checksum (without (take n s) h j.1 e))
    by (judged _) (unfinished n j) = told (more n) j
    by (judged _) (no_header k p j) = told (refused k p) j

-- "Bytes that follow still never change its acceptance or refusal"
pub checks_stays : (s t : List ℕ) (v : CheckedVerdict) → ((n : ℕ) → v ≡ judged (more n) → ⊥) → Checks s v → Checks (s ++ t) v
checks_stays s t v decided c = by v decided c
  where
    stays : (h : Header) (n : ℕ) → Judges (accepted h n) s → Judges (accepted h n) (s ++ t)
    stays h n j = judges_stays (accepted h n) s t (λ m e. let z : ◌≡◌ {A = ℕ} 0 1 = cc in omega arith) j

    front : (h : Header) (n : ℕ) → Judges (accepted h n) s → take n s ≡ take n (s ++ t)
    front h n j = sym (take-append-le n s t j.0)

    by : (v : CheckedVerdict) → ((n : ℕ) → v ≡ judged (more n) → ⊥) → Checks s v → Checks (s ++ t) v
    by (refuses _) d (wrong h n j kind w) = wrong h n (stays h n j) kind (subst (λ (f : List ℕ). Wrong f (tlvs_in h)) (front h n j) w)
    by (judged _) d (matched h n j kind r) = matched h n (stays h n j) kind (subst (λ (f : List ℕ). Right f (tlvs_in h)) (front h n j) r)
    by (judged _) d (absent h n j e) = absent h n (stays h n j) e
    by (judged _) d (unfinished n j) = absurd (d n refl)
    by (judged _) d (no_header k p j) =
        no_header k p (judges_stays (refused k p) s t (λ m e. let z : ◌≡◌ {A = ℕ} 0 1 = cc in omega arith) j)
