-- Addresses as the version 1 writer writes them: IPv4 as four decimals, IPv6 by RFC 5952, section 4.
use Rattle.std.specs.Prelude.{Bool, List, [], ◌∷◌, ◌++◌, ℕ, ◌+◌, leb, take, drop}
use Rattle.exact.specs.Ascii.{ascii}
use Rattle.exact.specs.Network.{number}
use Rattle.exact.specs.Pick.{pick}
use Rattle.draft.specs.Numeral.{decimal_text, hex_text, joined}
use Rattle.zero_run.specs.declared.Run.{Run}
use Rattle.address_text.specs.declared.Inet.{Inet}
use Rattle.address_text.specs.declared.Inet.TheVariants.{V4, V6}
use Rattle.zero_run.specs.ZeroRun.{longest_run}

-- "IPv4: four decimals 0 to 255 with dots"
abbrev pub octets_text : List ℕ → List ℕ
octets_text octets = joined (ascii ".") decimal_text octets

-- groups with colons: "lower case, no leading zeros"
abbrev pub colon_text : List ℕ → List ℕ
colon_text groups = joined (ascii ":") hex_text groups

-- a run "as "::"": the groups before it, "::", the groups behind it
abbrev pub shortened_text : Run → List ℕ → List ℕ
shortened_text run groups = colon_text (take run.before groups) ++ ascii "::" ++ colon_text (drop (run.before + run.count) groups)

-- "of two or more zero groups"
abbrev pub is_replaced : Run → Bool
is_replaced run = leb 2 run.count

-- "the longest run of two or more zero groups, the first of equals, as "::""
unfoldable pub groups_text : List ℕ → List ℕ
groups_text groups = pick (is_replaced (longest_run groups)) (shortened_text (longest_run groups) groups) (colon_text groups)

-- the groups of an address's bytes, each in network order: high byte first
abbrev pub groups_of : List ℕ → List ℕ
groups_of [] = []
groups_of (h ∷ []) = []
groups_of (h ∷ l ∷ bytes) = number h l ∷ groups_of bytes

-- the address at the front of a record's array
abbrev pub ip4_text : List ℕ → List ℕ
ip4_text held = octets_text (take 4 held)

abbrev pub ip6_text : List ℕ → List ℕ
ip6_text held = groups_text (groups_of (take 16 held))

abbrev pub address_text : Inet → List ℕ → List ℕ
address_text V4 held = ip4_text held
address_text V6 held = ip6_text held
