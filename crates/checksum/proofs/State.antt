-- Lemmas on what specs/State.antt defines.
use Rattle.std.specs.Prelude.{◌≡◌, refl, Bool, true, false, List, [], ◌∷◌, ℕ, ◌≤◌, length, Option, Some, None}
use Rattle.std.proofs.Common.{ap, ◌∙◌, arith}
use Rattle.exact.specs.Pick.{pick}
use Rattle.lent.specs.Same.{same}
use Rattle.lent.proofs.Same.{same_equal}
use Rattle.tlv.specs.Tlv.{Tlv}
use Rattle.record.specs.declared.Checksum.{Checksum}
use Rattle.record.specs.declared.Checksum.TheVariants.{Absent, Matched}
use Rattle.checksum.specs.Checksum.{values_of, checksum_of, differs, not_four, several}
use Rattle.checksum.specs.State.{Means, no_checksum, right, state_by, state_in, wrong}

module _ (f : List ℕ) (tlvs : List Tlv) where
  means_by : (values : List (List ℕ)) → values_of 0x03 tlvs ≡ values → Means f tlvs (state_by values (checksum_of f tlvs))
  means_by [] e = no_checksum e
  means_by (value ∷ []) e = by (same value (checksum_of f tlvs)) refl
    where
      by : (b : Bool) → same value (checksum_of f tlvs) ≡ b → Means f tlvs (pick b (Some Matched) None)
      by true t = right (e ∙ ap (λ (v : List ℕ). v ∷ []) ((same_equal value (checksum_of f tlvs)).0 t))
      by false t =
          wrong (differs value e (λ s. let u = (same_equal value (checksum_of f tlvs)).1 s in let z : ◌≡◌ {A = ℕ} 0 1 = cc in omega arith))
  means_by (value ∷ another ∷ rest) e = wrong (several (let n = ap length e in omega arith))

  pub state_means : Means f tlvs (state_in f tlvs)
  state_means = means_by (values_of 0x03 tlvs) refl

  -- by its values
  by_values : {values : List (List ℕ)} → values_of 0x03 tlvs ≡ values → state_in f tlvs ≡ state_by values (checksum_of f tlvs)
  by_values = ap (λ (v : List (List ℕ)). state_by v (checksum_of f tlvs))

  one : (value : List ℕ) (b : Bool) → same value (checksum_of f tlvs) ≡ b → values_of 0x03 tlvs ≡ value ∷ [] → state_in f tlvs ≡ pick b (Some Matched) None
  one value b e v = by_values v ∙ ap (λ (x : Bool). pick x (Some Matched) None) e

  other : (value : List ℕ) → (value ≡ checksum_of f tlvs → ⊥) → same value (checksum_of f tlvs) ≡ false
  other value n = by (same value (checksum_of f tlvs)) refl
    where
      by : (b : Bool) → same value (checksum_of f tlvs) ≡ b → b ≡ false
      by true t = absurd (n ((same_equal value (checksum_of f tlvs)).0 t))
      by false t = refl

  more_than_one : (values : List (List ℕ)) → 2 ≤ length values → state_by values (checksum_of f tlvs) ≡ None
  more_than_one [] h = absurd (omega arith)
  more_than_one (value ∷ []) h = absurd (omega arith)
  more_than_one (value ∷ another ∷ rest) h = refl

  -- no other state means that
  pub means_one : (x : Option Checksum) → Means f tlvs x → state_in f tlvs ≡ x
  means_one (Some Absent) (no_checksum e) = by_values e
  means_one (Some Matched) (right r) = one (checksum_of f tlvs) true ((same_equal (checksum_of f tlvs) (checksum_of f tlvs)).1 refl) r
  means_one None (wrong (differs value v n)) = one value false (other value n) v
  means_one None (wrong (not_four value v n)) = one value false (other value (λ e. n (ap length e))) v
  means_one None (wrong (several h)) = more_than_one (values_of 0x03 tlvs) h
