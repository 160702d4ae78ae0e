-- Numbers as they are written: decimals, and hex as in the groups of an IPv6 address (document 01, "The text line").
use Rattle.std.specs.Prelude.{List, [], ◌∷◌, ◌++◌, ℕ, zero, suc, ◌+◌, ◌-◌, ◌/◌, ◌%◌, ltb}
use Prim.Native.Char.{code}
use Rattle.exact.specs.Pick.{pick}
use Rattle.draft.specs.declared.Base.{Base}
use Rattle.draft.specs.declared.Base.TheVariants.{Decimal, Hex}

-- a digit: "0" to "9", then "a" to "f", in "lower case"
abbrev pub digit : ℕ → ℕ
digit d = pick (ltb d 10) (code "0" + d) (code "a" + (d - 10))

-- "no leading zeros": a number below the base is one digit; any other has its last digit behind those of what is left without it
abbrev pub digits_of : (base most n : ℕ) → List ℕ
digits_of base zero n = []
digits_of base (suc most) n = pick (ltb n base) (digit n ∷ []) (digits_of base most (n / base) ++ digit (n % base) ∷ [])

-- the text of n in a base: it has at most n + 1 digits
unfoldable pub numeral : (base n : ℕ) → List ℕ
numeral base n = digits_of base (suc n) n

-- "decimals"
abbrev pub decimal_text : ℕ → List ℕ
decimal_text n = numeral 10 n

-- "hex digits"
abbrev pub hex_text : ℕ → List ℕ
hex_text n = numeral 16 n

-- the texts of numbers, with a separator between two
abbrev pub joined : (separator : List ℕ) (text : ℕ → List ℕ) → List ℕ → List ℕ
joined separator text [] = []
joined separator text (n ∷ []) = text n
joined separator text (n ∷ m ∷ ns) = text n ++ separator ++ joined separator text (m ∷ ns)

-- the bases
abbrev pub base_of : Base → ℕ
base_of Decimal = 10
base_of Hex = 16
