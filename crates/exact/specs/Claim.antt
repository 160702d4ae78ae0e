-- Demand 3 of document 01, for any notion of a whole header: what a verdict on the bytes so far claims.
use Rattle.std.specs.Prelude.{◌≡◌, List, [], ◌∷◌, ◌++◌, ℕ, ◌+◌, ◌≤◌, ◌<◌, length, take}

-- accepted: what the header says, and its length; more: document 02, K10, "the smallest number of further bytes with which some continuation is a
-- whole header"; refused: the number of a field, and a place, which counts from 0
pub data Verdict (A : Type 0) : Type 0 where
  accepted : A → ℕ → Verdict A
  more : ℕ → Verdict A
  refused : ℕ → ℕ → Verdict A

abbrev pub AllBytes : List ℕ → Type 0
AllBytes [] = Unit {0}
AllBytes (c ∷ s) = (c < 256) × AllBytes s

module _ {A : Type 0} (Whole : List ℕ → A → Type 0) where
  -- the first n bytes of s are a whole header, which says a
  abbrev pub Heads : ℕ → A → List ℕ → Type 0
  Heads n a s = (n ≤ length s) × Whole (take n s) a

  -- "A continuation of some bytes is these bytes with any further bytes, or none, behind them": some continuation of s begins with a whole header
  abbrev pub Live : List ℕ → Type 0
  Live s = (t : List ℕ) × AllBytes t × (n : ℕ) × (a : A) × Heads n a (s ++ t)

  -- "The byte at place p is dead if no continuation of bytes 0 to p begins with a whole header"
  abbrev pub Dead : ℕ → List ℕ → Type 0
  Dead p s = Live (take (p + 1) s) → ⊥

  -- with some n further bytes s is a whole header
  abbrev pub Finishes : ℕ → List ℕ → Type 0
  Finishes n s = (t : List ℕ) × AllBytes t × (length t ≡ n) × (a : A) × Whole (s ++ t) a

  -- some n further bytes do, and no fewer
  abbrev pub Fewest : ℕ → List ℕ → Type 0
  Fewest n s = Finishes n s × ((m : ℕ) → m < n → Finishes m s → ⊥)

  -- number u is the number of the field that holds the byte behind the bytes u
  abbrev pub Claim : (number : List ℕ → ℕ) → Verdict A → List ℕ → Type 0
  Claim number (accepted a n) s = Heads n a s
  Claim number (more n) s = ((m : ℕ) (a : A) → Heads m a s → ⊥) × Fewest n s
  Claim number (refused k p) s = (p < length s) × Live (take p s) × Dead p s × (k ≡ number (take p s))
