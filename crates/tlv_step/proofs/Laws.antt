-- Laws of a walk: where a step answers 12, and what the steps from place 0 of a well-formed area show.
use Rattle.std.specs.Prelude.{◌≡◌, refl, Bool, true, false, List, [], ◌∷◌, ◌⊎◌, ◌↔◌, ℕ, ◌+◌, ◌≤◌, ◌<◌, length, drop}
use Rattle.std.proofs.Common.{sym, ap, ◌∙◌, subst, inl, inr, arith, length-drop}
use Rattle.exact.specs.Pick.{pick}
use Rattle.tlv.specs.Tlv.{Tlv, Area, WellFormed}
use Rattle.tlv.specs.Test.{well_formed}
use Rattle.tlv.proofs.Test.{well_formed_tested, ill_formed_tested}
use Rattle.tlv.proofs.Heads.{head_type, head_size, head_room, head_value, head_rest}
use Rattle.tlv_step.specs.Step.{Step, shown, end, refused, head_at, step_at, value_of, place_after}
use Rattle.tlv_step.specs.Walk.{Shows}
use Rattle.tlv_step.proofs.Facts.{head_beyond, head_end, head_shown}

module _ (s : List ℕ) (at : ℕ) where
  -- where what remains is well-formed, the TLV at the place says all
  pub step_head : WellFormed (drop at s) → step_at s at ≡ head_at s at
  step_head w = rw ((well_formed_tested (drop at s)).1 w)

  pub from_head : (r : Step) → WellFormed (drop at s) → r ≡ head_at s at → r ≡ step_at s at
  from_head r w e = e ∙ sym (step_head w)

  -- "if what remains from its place is ill-formed, or the place lies beyond the area, the step answers 12 and the walker stays where it was"
  step_refused : (WellFormed (drop at s) → ⊥) ⊎ (length s < at) → step_at s at ≡ refused 12
  step_refused (inl not) = rw (ill_formed_tested (drop at s) not)
  step_refused (inr h) = by (well_formed (drop at s))
    where
      by : (b : Bool) → pick b (head_at s at) (refused 12) ≡ refused 12
      by true = head_beyond s at h
      by false = refl

  pub refused_stays : (WellFormed (drop at s) → ⊥) ⊎ (length s < at) → (step_at s at ≡ refused 12) × (place_after at (step_at s at) ≡ at)
  refused_stays h = (step_refused h, ap (place_after at) (step_refused h))

shows_from : (s : List ℕ) (at : ℕ) (tlvs : List Tlv) → at ≤ length s → Area (drop at s) tlvs → Shows s at tlvs
shows_from s at [] h a =
    let n = simp length-drop at (ap length a.0) in
    let e : step_at s at ≡ end = step_head s at ([], a) ∙ head_end s at (omega arith) in
    (e, ap (place_after at) e)
shows_from s at (t ∷ rest) h a =
    let size = head_size s at t rest a in
    let room = head_room s at t rest a in
    let e : step_at s at ≡ shown t.type (at + 3) (length t.value) =
    step_head s at (t ∷ rest, a) ∙ head_shown s at (omega arith)
    ∙ (λ i. shown (head_type s at t rest a i) (at + 3) (size i)) in (
      e,
      ap (value_of s) e ∙ head_value s at t rest a,
      subst (λ (n : ℕ). Shows s n rest) (sym (ap (place_after at) e)) (shows_from s (at + 3 + length t.value) rest room (head_rest s at t rest a)),
    )

-- the steps from a place show one list only
pub shows_one : (s : List ℕ) (at : ℕ) (a b : List Tlv) → Shows s at a → Shows s at b → a ≡ b
shows_one s at [] [] x y = refl
shows_one s at [] (u ∷ b) x y = let z : ◌≡◌ {A = ℕ} 0 1 = cc in absurd (omega arith)
shows_one s at (t ∷ a) [] x y = let z : ◌≡◌ {A = ℕ} 0 1 = cc in absurd (omega arith)
shows_one s at (t ∷ a) (u ∷ b) x y =
    let type : t.type ≡ u.type = cc in
    let value : t.value ≡ u.value = cc in
    let tail : a ≡ b = shows_one s (place_after at (step_at s at)) a b x.2 y.2 in
    λ i. record { type = type i; value = value i } ∷ tail i

-- where a list is shown, no step is refused
not_refused : (s : List ℕ) (at : ℕ) (tlvs : List Tlv) → Shows s at tlvs → step_at s at ≡ refused 12 → ⊥
not_refused s at [] x e = let z : ◌≡◌ {A = ℕ} 0 1 = cc in omega arith
not_refused s at (t ∷ rest) x e = let z : ◌≡◌ {A = ℕ} 0 1 = cc in omega arith

shown_area : (s : List ℕ) (tlvs : List Tlv) → Shows s 0 tlvs → Area s tlvs
shown_area s tlvs x = by (well_formed s) refl
  where
    by : (b : Bool) → well_formed s ≡ b → Area s tlvs
    by true e =
        let w = (well_formed_tested s).0 e in
        subst (Area s) (shows_one s 0 w.0 tlvs (shows_from s 0 w.0 (omega arith) w.1) x) w.1
    by false e = absurd (not_refused s 0 tlvs x (rw e))

-- "So from place 0 of a well-formed area the steps show its TLV list in order, each once, then the end", and they show no other list
pub walk_shows : (s : List ℕ) (tlvs : List Tlv) → Area s tlvs ↔ Shows s 0 tlvs
walk_shows s tlvs = (shows_from s 0 tlvs (omega arith), shown_area s tlvs)
