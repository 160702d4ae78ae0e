-- What a head says, and which bytes begin with one: the only laws with a case for each version.
use Rattle.std.specs.Prelude.{◌≡◌, refl, true, List, [], ◌∷◌, ◌++◌, ◌↔◌, ℕ, ◌≤◌, length, take, drop, get_or, Some}
use Rattle.std.proofs.Common.{sym, ap, ◌∙◌, arith, eqb-true, eq-eqb, drop-cons}
use Rattle.exact.proofs.Pick.{both}
use Rattle.record.specs.declared.Kind.{Kind}
use Rattle.record.specs.declared.Checksum.{Checksum}
use Rattle.record.specs.declared.Checksum.TheVariants.{Absent}
use Rattle.clean.proofs.UnusedLaws.{state_absent}
use Rattle.kind_code.specs.Codes.{code_of, kind_of}
use Rattle.kind_code.specs.States.{state_byte}
use Rattle.kind_code.proofs.CodeLaws.{kind_code, byte_state, state_byte_lem}
use Rattle.stored_form.specs.declared.StoredVersion.{StoredVersion}
use Rattle.stored_form.specs.declared.StoredVersion.TheVariants.{One, Two}
use Rattle.stored_form.specs.Heads.{mark, version_byte, version_bytes, state_bytes, head, head_length, state_in, Keeps, keeps_test}
use Rattle.stored_form.specs.Loading.{has_mark, has_version}

-- ── a version ──
pub six_at_least : (v : StoredVersion) → 6 ≤ head_length v
six_at_least One = omega arith
six_at_least Two = omega arith

pub seven_at_most : (v : StoredVersion) → head_length v ≤ 7
seven_at_most One = omega arith
seven_at_most Two = omega arith

pub keeps_test_lem : (v : StoredVersion) (c : Checksum) → keeps_test v c ≡ true ↔ Keeps v c
keeps_test_lem One c = state_absent c
keeps_test_lem Two c = (λ t. tt, λ k. refl)

-- ── bytes that begin with a head ──
module _ (k : Kind) (c : Checksum) where
  pub head_length_lem : (v : StoredVersion) → length (head v k c) ≡ head_length v
  head_length_lem One = refl
  head_length_lem Two = refl

  -- it is cut from seven bytes
  pub head_cut : (v : StoredVersion) → take (head_length v) (mark ++ version_bytes v ++ code_of k ∷ state_byte c ∷ []) ≡ head v k c
  head_cut One = refl
  head_cut Two = refl

module _ (k : Kind) (c : Checksum) (b : List ℕ) where
  pub head_version : (v : StoredVersion) → has_version v (head v k c ++ b) ≡ true
  head_version v = eq-eqb (version_byte v) (version_byte v) refl

  pub head_state : (v : StoredVersion) → Keeps v c → state_in v (head v k c ++ b) ≡ Some c
  head_state One kept = ap Some (sym kept)
  head_state Two kept = byte_state c

  pub behind_head : (v : StoredVersion) → drop (head_length v) (head v k c ++ b) ≡ b
  behind_head One = refl
  behind_head Two = refl

-- ── and the other way ──
-- the first six bytes, and the rest
six : (s : List ℕ) → 6 ≤ length s → s ≡ get_or s 0 0 ∷ get_or s 1 0 ∷ get_or s 2 0 ∷ get_or s 3 0 ∷ get_or s 4 0 ∷ get_or s 5 0 ∷ drop 6 s
six [] h = absurd (omega arith)
six (a ∷ []) h = absurd (omega arith)
six (a ∷ b ∷ []) h = absurd (omega arith)
six (a ∷ b ∷ c ∷ []) h = absurd (omega arith)
six (a ∷ b ∷ c ∷ d ∷ []) h = absurd (omega arith)
six (a ∷ b ∷ c ∷ d ∷ e ∷ []) h = absurd (omega arith)
six (a ∷ b ∷ c ∷ d ∷ e ∷ f ∷ s) h = refl

pub said_kept : (v : StoredVersion) (s : List ℕ) (c : Checksum) → state_in v s ≡ Some c → Keeps v c
said_kept One s c e = let same : c ≡ Absent = cc in same
said_kept Two s c e = tt

state_again : (v : StoredVersion) (s : List ℕ) (c : Checksum) → head_length v ≤ length s → state_in v s ≡ Some c
    → drop 6 s ≡ state_bytes v c ++ drop (head_length v) s
state_again One s c long e = refl
state_again Two s c long e = drop-cons s 6 0 (omega arith) ∙ ap (λ (b : ℕ). b ∷ drop 7 s) (sym (state_byte_lem (get_or s 6 0) c e))

pub head_again : (v : StoredVersion) (s : List ℕ) (k : Kind) (c : Checksum) → head_length v ≤ length s → has_mark s ≡ true → has_version v s ≡ true
    → kind_of (get_or s 5 0) ≡ Some k → state_in v s ≡ Some c → s ≡ head v k c ++ drop (head_length v) s
head_again v s k c long marked versioned code state =
    let m₁ = both _ _ marked in
    let m₂ = both _ _ m₁.0 in
    let w = both _ _ versioned in
    let a₀ = eqb-true (get_or s 0 0) 0x43 m₂.0 in
    let a₁ = eqb-true (get_or s 1 0) 0x53 m₂.1 in
    let a₂ = eqb-true (get_or s 2 0) 0x52 m₁.1 in
    let a₃ = eqb-true (get_or s 3 0) 0x00 w.0 in
    let a₄ = eqb-true (get_or s 4 0) (version_byte v) w.1 in
    let a₅ = kind_code (get_or s 5 0) k code in
    let at_least_lem = six_at_least v in
    let whole = six s (omega arith) in
    let rest = state_again v s c long state in
    cc
