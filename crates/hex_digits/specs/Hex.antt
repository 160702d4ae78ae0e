-- Hex digits of the text line.
use Rattle.std.specs.Prelude.{Bool, false, ℕ, ◌+◌, ◌-◌, leb}
use Prim.Native.Char.{Char, code}
use Rattle.exact.specs.Pick.{pick}

-- c is one of the characters from a to z
abbrev pub among : Char → Char → ℕ → Bool
among a z c = pick (leb (code a) c) (leb c (code z)) false

-- the value of a hex digit "in either case"; 16 where c is none
unfoldable pub hex_of : ℕ → ℕ
hex_of c =
    pick (among "0" "9" c) (c - code "0")
    (pick (among "a" "f" c) (c - code "a" + 10)
    (pick (among "A" "F" c) (c - code "A" + 10) 16))
