-- What stands at a place of a well-formed area is the first of the TLVs that remain there.
use Rattle.std.specs.Prelude.{◌≡◌, refl, true, List, [], ◌∷◌, ◌⊎◌, ℕ, ◌+◌, ◌≤◌, length, drop}
use Rattle.std.proofs.Common.{sym, ap, ◌∙◌, subst, inl, inr, arith, length-append, length-drop}
use Rattle.std.proofs.lemmas.Bool.{cases_lt}
use Rattle.tlv.specs.Tlv as Spec
use Rattle.tlv.specs.Tlv.{written, Area}
use Rattle.tlv.specs.Test.{well_formed}
use Rattle.tlv.proofs.Test.{well_formed_tested}
use Rattle.tlv.proofs.Heads.{head_type, head_size, head_room, head_rest}
use Rattle.tlv.proofs.Listed.{tlvs_of_lem}
use Rattle.tlv_step.specs.Step.{Step, shown, end, refused, head_at}
use Rattle.tlv_step.specs.Left.{placed, left_from}
use Rattle.tlv_step.specs.declared.Tlv.{Tlv}
use Rattle.tlv_step.proofs.Facts.{head_beyond, head_end, head_shown}

module _ (s : List ℕ) (at : ℕ) where
  left_listed : (tlvs : List Spec.Tlv) → Area (drop at s) tlvs → left_from s at ≡ placed at tlvs
  left_listed tlvs a = ap (placed at) (tlvs_of_lem (drop at s) tlvs a)

  -- where no TLV remains none stands
  stands_none : Area (drop at s) [] → (head_at s at ≡ end) ⊎ (head_at s at ≡ refused 12)
  stands_none a =
      let n = simp length-drop at (ap length a.0) in
      elim (cases_lt (length s) at) [ inl h ↦ inr (head_beyond s at h) | inr h ↦ inl (head_end s at (omega arith)) ]

  -- else the first of them
  pub stands_first : (u : Spec.Tlv) (rest : List Spec.Tlv) → Area (drop at s) (u ∷ rest) → head_at s at ≡ shown u.type (at + 3) (length u.value)
  stands_first u rest a =
      let size = head_size s at u rest a in
      let room = head_room s at u rest a in
      head_shown s at (omega arith) ∙ (λ i. shown (head_type s at u rest a i) (at + 3) (size i))

  module _ (w : well_formed (drop at s) ≡ true) where
    none_by : (r : Step) (tlvs : List Spec.Tlv) → Area (drop at s) tlvs → r ≡ head_at s at → (r ≡ end) ⊎ (r ≡ refused 12) → left_from s at ≡ []
    none_by r [] a e none = left_listed [] a
    none_by r (u ∷ rest) a e (inl none) = let f = stands_first u rest a in let z : ◌≡◌ {A = ℕ} 0 1 = cc in absurd (omega arith)
    none_by r (u ∷ rest) a e (inr none) = let f = stands_first u rest a in let z : ◌≡◌ {A = ℕ} 0 1 = cc in absurd (omega arith)

    pub left_end : end ≡ head_at s at → left_from s at ≡ []
    left_end e = let l = (well_formed_tested (drop at s)).0 w in none_by end l.0 l.1 e (inl refl)

    pub left_refused : refused 12 ≡ head_at s at → left_from s at ≡ []
    left_refused e = let l = (well_formed_tested (drop at s)).0 w in none_by (refused 12) l.0 l.1 e (inr refl)

    module _ (t : Tlv) (e : shown t.tlv_type t.value.start t.value.size ≡ head_at s at) where
      first_by : (tlvs : List Spec.Tlv) → Area (drop at s) tlvs
          → (well_formed (drop (t.value.start + t.value.size) s) ≡ true) × (left_from s at ≡ t ∷ left_from s (t.value.start + t.value.size))
      first_by [] a = elim (stands_none a) [
        | inl f ↦ let z : ◌≡◌ {A = ℕ} 0 1 = cc in absurd (omega arith)
        | inr f ↦ let z : ◌≡◌ {A = ℕ} 0 1 = cc in absurd (omega arith)
      ]
      first_by (u ∷ rest) a =
          let f = stands_first u rest a in
          let type : u.type ≡ t.tlv_type = cc in
          let start : at + 3 ≡ t.value.start = cc in
          let size : length u.value ≡ t.value.size = cc in
          let next : at + 3 + length u.value ≡ t.value.start + t.value.size = omega arith in
          let behind : Area (drop (t.value.start + t.value.size) s) rest = subst (λ (n : ℕ). Area (drop n s) rest) next (head_rest s at u rest a) in (
            (well_formed_tested (drop (t.value.start + t.value.size) s)).1 (rest, behind),
            left_listed (u ∷ rest) a
                ∙ (λ i. record { tlv_type = type i; value = record { start = start i; size = size i } } ∷ placed (next i) rest)
                ∙ ap (λ (l : List Tlv). t ∷ l) (sym (ap (placed (t.value.start + t.value.size)) (tlvs_of_lem (drop (t.value.start + t.value.size) s) rest behind))),
          )

      pub left_first : (well_formed (drop (t.value.start + t.value.size) s) ≡ true) × (left_from s at ≡ t ∷ left_from s (t.value.start + t.value.size))
      left_first = let l = (well_formed_tested (drop at s)).0 w in first_by l.0 l.1

-- the values lie in the first n bytes
abbrev pub Within : ℕ → List Tlv → Type 0
Within n [] = Unit {0}
Within n (t ∷ rest) = (t.value.start + t.value.size ≤ n) × Within n rest

placed_within : (n at : ℕ) (tlvs : List Spec.Tlv) → at + length (written tlvs) ≤ n → Within n (placed at tlvs)
placed_within n at [] h = tt
placed_within n at (t ∷ rest) h =
    let e = length-append t.value (written rest) in (omega arith, placed_within n (at + 3 + length t.value) rest (omega arith))

-- those of an area do
pub left_within : (s : List ℕ) → well_formed s ≡ true → Within (length s) (left_from s 0)
left_within s w =
    let l = (well_formed_tested s).0 w in
    let n = ap length l.1.0 in
    rw (tlvs_of_lem s l.0 l.1) (placed_within (length s) 0 l.0 (omega arith))
