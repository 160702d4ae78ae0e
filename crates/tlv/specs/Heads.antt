-- What the bytes of an area say at the place of a TLV: its type, its length, its value, and what remains behind it.
use Rattle.std.specs.Prelude.{List, ℕ, ◌+◌, get_or, take, drop}
use Rattle.exact.specs.Network.{number_at}
use Rattle.tlv.specs.Tlv.{Tlv}

-- the length that the TLV at a place says: "two length bytes (high first)"
abbrev pub size_at : List ℕ → ℕ → ℕ
size_at s at = number_at s (at + 1)

-- bytes in which the TLV at a place ends: that TLV, and what remains behind it
abbrev pub tlv_at : List ℕ → ℕ → Tlv
tlv_at s at = record { type = get_or s at 0; value = take (size_at s at) (drop (at + 3) s) }
