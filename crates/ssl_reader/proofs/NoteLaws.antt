-- What noting a sub-TLV does to the pieces.
use Rattle.std.specs.Prelude.{◌≡◌, refl, List, [], ◌∷◌, ℕ, zero, suc, ◌+◌, ◌≤◌, ◌<◌, length, get_or, set, is_some, true, false, Option, Some, None}
use Rattle.std.proofs.Common.{ap, ap₂, ◌∙◌, arith, eq-eqb}
use Rattle.std.proofs.lemmas.Bool.{ne_eqb}
use Rattle.std.proofs.lemmas.List.{length-map, map-set}
use Rattle.ssl_reader.specs.Ssl.{Part}
use Rattle.ssl_reader.specs.Noted.{found_part, found_parts, or_part, noted}

abbrev pub none_yet : Part
none_yet = record { start = 0; size = 0 }

pub found_at : (i : ℕ) (pieces : List Part) → get_or (found_parts pieces) i None ≡ found_part (get_or pieces i none_yet)
found_at i [] = refl
found_at zero (p ∷ rest) = refl
found_at (suc i) (p ∷ rest) = found_at i rest

-- a piece is there where it does not start at 0
is_found : (p : Part) → (p.start ≡ 0 → ⊥) → found_part p ≡ Some p
is_found p h = rw (ne_eqb p.start 0 h) refl

module _ (type : ℕ) (q : Part) where
  -- another type changes nothing
  pub noted_before : (from : ℕ) (parts : List (Option Part)) → type < from → parts ≡ noted type q from parts
  noted_before from [] h = refl
  noted_before from (p ∷ rest) h =
      rw (ne_eqb type from (λ e. omega arith)) (ap (λ (l : List (Option Part)). p ∷ l) (noted_before (suc from) rest (omega arith)))

  pub noted_beyond : (from : ℕ) (parts : List (Option Part)) → from + length parts ≤ type → parts ≡ noted type q from parts
  noted_beyond from [] h = refl
  noted_beyond from (p ∷ rest) h =
      rw (ne_eqb type from (λ e. omega arith)) (ap (λ (l : List (Option Part)). p ∷ l) (noted_beyond (suc from) rest (omega arith)))

  -- neither does a repeated one
  kept : (p : Option Part) → is_some p ≡ true → p ≡ or_part p q
  kept None h = let z : ◌≡◌ {A = ℕ} 0 1 = cc in absurd (omega arith)
  kept (Some p) h = refl

  pub noted_again : (i from : ℕ) (parts : List (Option Part)) → type ≡ from + i → i < length parts → is_some (get_or parts i None) ≡ true
      → parts ≡ noted type q from parts
  noted_again i from [] e h g = absurd (omega arith)
  noted_again zero from (p ∷ rest) e h g =
      rw (eq-eqb type from (omega arith))
      (ap₂ {B = List (Option Part)} (λ (o : Option Part) (l : List (Option Part)). o ∷ l) (kept p g) (noted_before (suc from) rest (omega arith)))
  noted_again (suc i) from (p ∷ rest) e h g =
      rw (ne_eqb type from (λ f. omega arith))
      (ap (λ (l : List (Option Part)). p ∷ l) (noted_again i (suc from) rest (omega arith) (omega arith) g))

  -- the first of its type is noted
  first : (p : Option Part) → is_some p ≡ false → Some q ≡ or_part p q
  first None h = refl
  first (Some p) h = let z : ◌≡◌ {A = ℕ} 0 1 = cc in absurd (omega arith)

  pub noted_first : (i from : ℕ) (parts : List (Option Part)) → type ≡ from + i → i < length parts → is_some (get_or parts i None) ≡ false
      → set parts i (Some q) ≡ noted type q from parts
  noted_first i from [] e h g = absurd (omega arith)
  noted_first zero from (p ∷ rest) e h g =
      rw (eq-eqb type from (omega arith))
      (ap₂ {B = List (Option Part)} (λ (o : Option Part) (l : List (Option Part)). o ∷ l) (first p g) (noted_before (suc from) rest (omega arith)))
  noted_first (suc i) from (p ∷ rest) e h g =
      rw (ne_eqb type from (λ f. omega arith))
      (ap (λ (l : List (Option Part)). p ∷ l) (noted_first i (suc from) rest (omega arith) (omega arith) g))

  -- the same of pieces of which one that starts at 0 is none yet
  pub found_beyond : (from : ℕ) (pieces : List Part) → from + length pieces ≤ type → found_parts pieces ≡ noted type q from (found_parts pieces)
  found_beyond from pieces h = let n = length-map pieces found_part in noted_beyond from (found_parts pieces) (omega arith)

  pub found_again : (i from : ℕ) (pieces : List Part) → type ≡ from + i → i < length pieces → ((get_or pieces i none_yet).start ≡ 0 → ⊥)
      → found_parts pieces ≡ noted type q from (found_parts pieces)
  found_again i from pieces e h g =
      let n = length-map pieces found_part in
      noted_again i from (found_parts pieces) e (omega arith) (ap is_some (found_at i pieces ∙ is_found (get_or pieces i none_yet) g))

  module _ (there : 0 < q.start) where
    pub found_first : (i from : ℕ) (pieces : List Part) → type ≡ from + i → i < length pieces → (get_or pieces i none_yet).start ≡ 0
        → found_parts (set pieces i q) ≡ noted type q from (found_parts pieces)
    found_first i from pieces e h g =
        let n = length-map pieces found_part in
        map-set found_part pieces i q
        ∙ ap (set (found_parts pieces) i) (is_found q (λ z. omega arith))
        ∙ noted_first i from (found_parts pieces) e (omega arith) (ap is_some (found_at i pieces) ∙ rw (eq-eqb (get_or pieces i none_yet).start 0 g) refl)
