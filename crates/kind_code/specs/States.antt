-- The bytes of a checksum state in stored forms, version 2 (document 02, K7), and in C connections (include/dawnhawse.h).
use Rattle.std.specs.Prelude.{ℕ, eqb, Option, Some, None}
use Rattle.exact.specs.Pick.{pick}
use Rattle.record.specs.declared.Checksum.{Checksum}
use Rattle.record.specs.declared.Checksum.TheVariants.{Absent, Matched}

-- "0 absent, 1 matched"
abbrev pub state_byte : Checksum → ℕ
state_byte Absent = 0
state_byte Matched = 1

-- the state that a byte is of: no other byte is one
abbrev pub state_of : ℕ → Option Checksum
state_of b = pick (eqb b 0) (Some Absent) (pick (eqb b 1) (Some Matched) None)
