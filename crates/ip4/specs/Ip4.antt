-- IPv4 text (document 01, The text line).
use Rattle.std.specs.Prelude.{◌≡◌, List, [], ◌∷◌, ◌++◌, ℕ}
use Rattle.exact.specs.Ascii.{ascii}
use Rattle.decimal.specs.Decimal.{Decimal}

-- "IPv4: four decimals 0 to 255 with dots"; the value is the four octets
pub record Address (f octets : List ℕ) : Type 0 where
  pub a : List ℕ
  pub b : List ℕ
  pub c : List ℕ
  pub d : List ℕ
  pub split : f ≡ a ++ ascii "." ++ b ++ ascii "." ++ c ++ ascii "." ++ d
  pub first : ℕ
  pub second : ℕ
  pub third : ℕ
  pub fourth : ℕ
  pub whole_a : Decimal 255 a first
  pub whole_b : Decimal 255 b second
  pub whole_c : Decimal 255 c third
  pub whole_d : Decimal 255 d fourth
  pub value : octets ≡ first ∷ second ∷ third ∷ fourth ∷ []
