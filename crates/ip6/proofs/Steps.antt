-- Lemmas on what specs/Steps.antt defines.
use Rattle.std.specs.Prelude.{◌≡◌, refl, List, [], ◌∷◌, ℕ, ◌<◌}
use Rattle.std.proofs.Common.{arith, le-ltb}
use Rattle.exact.specs.Machine.{go, dead}
use Rattle.hex_digits.specs.Hex.{hex_of}
use Rattle.ip6.specs.Machine.{Gathered, plain, colon, gap, inside, step}

module _ (end : ℕ) where
  pub colon-colon : (l : List ℕ) → step end (colon (plain l)) 58 ≡ go (gap l)
  colon-colon [] = refl
  colon-colon (v ∷ l) = refl

  pub begin_other : (s : Gathered) (c : ℕ) → (hex_of c < 16 → ⊥) → inside end s 0 0 c ≡ dead
  begin_other s c h = simp (le-ltb (hex_of c) 16 (omega arith))
