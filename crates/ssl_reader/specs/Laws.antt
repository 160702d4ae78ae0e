-- What holds of a reading: what it is by the sub-TLVs, where a piece lies, and that the first sub-TLV of a type is the one that a lookup finds.
use Rattle.std.specs.Prelude.{◌≡◌, false, List, ℕ, ◌+◌, ◌≤◌, length, drop, Option, Some, None}
use Rattle.tlv.specs.Tlv.{Tlv, Area}
use Rattle.lookup.specs.Lookup.{Finding, found, absent, gave_up, refused, Lookup}
use Rattle.ssl_reader.specs.Ssl.{Part, part_of, parts_of, accepted, is_absent, lacks_version, client_of, verify_of, said_in}

-- ── what is read ──
-- a value that is accepted: sub-TLVs fill it from its fifth byte on, there is a version where one must be, and it says what these say
pub record Reads (value : List ℕ) : Type 0 where
  pub subs : List Tlv
  pub long : 5 ≤ length value
  pub area : Area (drop 5 value) subs
  pub version : lacks_version (client_of value) (is_absent (part_of 0x21 subs)) ≡ false
  pub said : said_in value ≡ record { outcome = accepted; client = client_of value; verify = verify_of value; parts = parts_of subs }

-- ── "lookup's first" ──
-- what a lookup in the sub-TLVs finds, as a part of the value
abbrev pub found_part : Finding → Lookup → Option Part
found_part found x = Some (record { start = 5 + x.start; size = x.length })
found_part absent x = None
found_part gave_up x = None
found_part (refused number) x = None
