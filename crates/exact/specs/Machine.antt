-- A machine takes a byte at a time: from each state a byte leads to another state, to the end, or nowhere.
use Rattle.std.specs.Prelude.{◌≡◌, List, [], ◌∷◌, ℕ, drop}
use Rattle.exact.specs.Claim.{Verdict, accepted, more, refused}
use Rattle.exact.specs.Field.{Field, shift}

-- one label for the whole of a language
abbrev pub leaf : {A : Type 0} → ℕ → (List ℕ → A → Type 0) → Field A
leaf k L = record { lang = L; at = λ u j. j ≡ k }

pub data Move (Q A : Type 0) : Type 0 where
  go : Q → Move Q A
  done : A → Move Q A
  dead : Move Q A

-- the machine's verdict
abbrev pub moved : {Q A : Type 0} → ℕ → Move Q A → (Q → Verdict A) → Verdict A
moved k (go p) rest = shift 1 (rest p)
moved k (done a) rest = accepted a 1
moved k dead rest = refused k 0

-- least q: how few bytes could follow the state q, with those that the fields behind ask
abbrev pub run : {Q A : Type 0} → ℕ → (Q → ℕ → Move Q A) → (least : Q → ℕ) → List ℕ → Q → Verdict A
run k step least [] q = more (least q)
run k step least (c ∷ s) q = moved k (step q c) (run k step least s)

-- ── the machine's own language: the bytes that take it from a state to its end ──
abbrev pub Ends : {Q A : Type 0} → Move Q A → (Q → Type 0) → List ℕ → A → Type 0
Ends (go p) on f a = on p
Ends (done b) on f a = (f ≡ []) × (a ≡ b)
Ends dead on f a = ⊥

abbrev pub Runs : {Q A : Type 0} → (Q → ℕ → Move Q A) → Q → List ℕ → A → Type 0
Runs step q [] a = ⊥
Runs step q (c ∷ f) a = Ends (step q c) (λ p. Runs step p f a) f a

-- ── what a loop over the bytes needs: the verdict from the index i on, in the state q ──
abbrev pub from : {Q A : Type 0} → ℕ → (Q → ℕ → Move Q A) → (Q → ℕ) → List ℕ → ℕ → Q → Verdict A
from k step least s i q = shift i (run k step least (drop i s) q)
