-- One literal text: its verdict, byte by byte.
use Rattle.std.specs.Prelude.{◌≡◌, List, [], ◌∷◌, ℕ, ◌+◌, ◌≤◌, ◌<◌, eqb, length, get_or}
use Rattle.exact.specs.Claim.{Verdict, accepted}
use Rattle.exact.specs.Machine.{Move, go, done, dead, run}
use Rattle.exact.specs.Pick.{pick}

abbrev pub Literal : {A : Type 0} → A → List ℕ → List ℕ → A → Type 0
Literal v w f a = (f ≡ w) × (a ≡ v)

abbrev pub next_literal : {A : Type 0} → A → List ℕ → Move (List ℕ) A
next_literal v [] = done v
next_literal v (x ∷ w) = go (x ∷ w)

abbrev pub step_literal : {A : Type 0} → A → List ℕ → ℕ → Move (List ℕ) A
step_literal v [] c = dead
step_literal v (x ∷ w) c = pick (eqb c x) (next_literal v w) dead

-- the bytes that are left, and then m
abbrev pub least_literal : ℕ → List ℕ → ℕ
least_literal m w = length w + m

-- m is what is asked behind the text; no bytes are there at once
abbrev pub literal : {A : Type 0} → ℕ → ℕ → A → List ℕ → List ℕ → Verdict A
literal k m v [] s = accepted v 0
literal k m v (x ∷ w) s = run k (step_literal v) (least_literal m) s (x ∷ w)

-- n is how many first bytes s and w have in common
pub record Common (s w : List ℕ) (n : ℕ) : Type 0 where
  pub inside_s : n ≤ length s
  pub inside_w : n ≤ length w
  pub same : (i : ℕ) → i < n → get_or s i 0 ≡ get_or w i 0
  pub apart : n < length s → n < length w → get_or s n 0 ≡ get_or w n 0 → ⊥
