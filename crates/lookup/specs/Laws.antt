-- Laws of lookup: it never examines more than the limit, a larger limit alters neither found nor absent, the first TLV of a type counts,
-- and what is found lies there.
use Rattle.lookup.specs.Lookup.{Finding, found, absent, gave_up, refused}

-- found or absent
abbrev pub Decided : Finding → Type 0
Decided found = Unit {0}
Decided absent = Unit {0}
Decided gave_up = ⊥
Decided (refused number) = ⊥
