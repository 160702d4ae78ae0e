-- IPv6 text (document 01, "The text line"): which bytes are an address, and the eight groups that it says.
use Rattle.std.specs.Prelude.{◌≡◌, List, [], ◌∷◌, ◌++◌, ◌⊎◌, ℕ, ◌+◌, ◌*◌, ◌-◌, ◌≤◌, ◌<◌, length, replicate}
use Prim.Native.Char.{code}
use Rattle.exact.specs.Ascii.{ascii}
use Rattle.hex_digits.specs.Hex.{hex_of}

-- hex digits, one after the other
abbrev pub HexDigits : List ℕ → Type 0
HexDigits [] = Unit {0}
HexDigits (c ∷ ds) = (hex_of c < 16) × HexDigits ds

-- the number that hex digits make behind those that make v
abbrev pub hex_number : ℕ → List ℕ → ℕ
hex_number v [] = v
hex_number v (c ∷ ds) = hex_number (v * 16 + hex_of c) ds

-- "groups of 1 to 4 hex digits in either case"
pub record Group (f : List ℕ) (v : ℕ) : Type 0 where
  pub digits : HexDigits f
  pub some : 1 ≤ length f
  pub few : length f ≤ 4
  pub value : v ≡ hex_number 0 f

-- "with colons": groups, at least one, and a colon between two
abbrev pub Groups : List ℕ → List ℕ → Type 0
Groups f [] = ⊥
Groups f (v ∷ []) = Group f v
Groups f (v ∷ w ∷ vs) =
    (first : List ℕ) × (rest : List ℕ) × (f ≡ first ++ ascii ":" ++ rest) × Group first v × Groups rest (w ∷ vs)

-- "Either eight groups"
pub record Full (f vs : List ℕ) : Type 0 where
  pub groups : Groups f vs
  pub eight : length vs ≡ 8

-- what stands on one side of "::": nothing, or groups
abbrev pub Side : List ℕ → List ℕ → Type 0
Side f [] = f ≡ []
Side f (v ∷ vs) = Groups f (v ∷ vs)

-- what "::" stands for: as many zero groups as make eight
abbrev pub filled : List ℕ → List ℕ → List ℕ
filled before behind = before ++ replicate (8 - (length before + length behind)) 0 ++ behind

-- "or one "::" anywhere with at most seven groups, standing for at least one zero group"
pub record Shortened (f vs : List ℕ) : Type 0 where
  pub left : List ℕ
  pub right : List ℕ
  pub before : List ℕ
  pub behind : List ℕ
  pub split : f ≡ left ++ ascii "::" ++ right
  pub left_side : Side left before
  pub right_side : Side right behind
  pub seven : length before + length behind ≤ 7
  pub value : vs ≡ filled before behind

-- so there is "No single colon at either end" and "No dotted tail"
abbrev pub Address : List ℕ → List ℕ → Type 0
Address f vs = Full f vs ⊎ Shortened f vs

-- a byte that can end an address
pub record Ending (end : ℕ) : Type 0 where
  pub byte : end < 256
  pub no_digit : hex_of end < 16 → ⊥
  pub no_colon : end ≡ code ":" → ⊥
