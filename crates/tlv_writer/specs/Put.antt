-- What an output holds when a TLV was put into it, and the place behind it.
use Rattle.std.specs.Prelude.{◌&&◌, List, ℕ, ◌+◌, ltb, leb, length}
use Rattle.exact.specs.Pick.{pick}
use Rattle.lent.specs.Placed.{placed}
use Rattle.tlv.specs.Tlv.{tlv_bytes}

-- the TLV, put at a place of the output, where two bytes hold its length and it fits; else the output stays as it was
abbrev pub tlv_placed : (type : ℕ) (value : List ℕ) (at : ℕ) → List ℕ → List ℕ
tlv_placed type value at output = pick (ltb (length value) 65536) (placed (tlv_bytes type value) at output) output

-- the place behind it; where it is not put, the same place
abbrev pub place_behind : (type : ℕ) (value : List ℕ) (at room : ℕ) → ℕ
place_behind type value at room =
    pick (ltb (length value) 65536 && leb (at + length (tlv_bytes type value)) room) (at + length (tlv_bytes type value)) at
