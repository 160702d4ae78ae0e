-- The end of an UNKNOWN line (document 01, The text line).
use Rattle.std.specs.Prelude.{◌≡◌, List, [], ◌∷◌, ◌++◌, ℕ, ◌≤◌, length}
use Rattle.exact.specs.Claim.{AllBytes}

abbrev pub CR : ℕ
CR = 13

abbrev pub LF : ℕ
LF = 10

-- no CR in s is followed by LF
abbrev pub NoEnd : List ℕ → Type 0
NoEnd s = (x y : List ℕ) → s ≡ x ++ CR ∷ LF ∷ y → ⊥

-- "the line ends at the first CR followed by LF; a lone CR or LF there is ignored like any other byte"; it has at most limit bytes
pub record FirstEnd (limit : ℕ) (f : List ℕ) : Type 0 where
  pub body : List ℕ
  pub split : f ≡ body ++ CR ∷ LF ∷ []
  pub none_before : NoEnd body
  pub bytes : AllBytes body
  pub size : length f ≤ limit
