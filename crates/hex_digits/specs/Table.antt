-- The table by which hex digits are valued, and its rule, which is proved over the whole table: an entry for each byte from 0 to "f".
use Rattle.std.specs.Prelude.{◌≡◌, List, ℕ, leb, get_or}
use Prim.Native.Char.{code}
use Rattle.exact.specs.Pick.{pick}
use Rattle.hex_digits.specs.Hex.{hex_of}

-- what a look-up of the byte c gives: its entry, or 16 behind the table's end
abbrev pub looked : List ℕ → ℕ → ℕ
looked t c = pick (leb c (code "f")) (get_or t c 0) 16

-- the rule: a look-up gives the value of a hex digit, of each byte
pub record HexTable (t : List ℕ) : Type 0 where
  pub value : (c : ℕ) → looked t c ≡ hex_of c
