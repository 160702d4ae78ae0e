-- What a colon part leads to: "a group is followed by a colon part, and a colon part by a group, until the address ends". That the verdict on an
-- address goes by it is shown in ip6 (`part_leads`).
use Rattle.std.specs.Prelude.{List, ℕ, ◌+◌, eqb, ltb, length, get_or}
use Prim.Native.Char.{code}
use Rattle.exact.specs.Pick.{pick}
use Rattle.colon_part.specs.declared.Part.{Part}
use Rattle.colon_part.specs.declared.Part.TheVariants.{More, Refused, End, Group}

-- how few bytes could follow a group, where at most eight have come: the end, or "::" and the end
abbrev pub least_counted : ℕ → ℕ → ℕ
least_counted count gap = pick (eqb gap 0) (pick (eqb count 8) 1 3) 1

-- at a place of an address that the byte `end` ends, with so many groups
module _ (end : ℕ) (s : List ℕ) where
  -- behind "::": the end, or a group; "with at most seven groups"
  abbrev pub behind_double : ℕ → ℕ → Part
  behind_double at count =
      pick (ltb at (length s))
      (pick (eqb (get_or s at 0) end) (End at (count + 1) (count + 1)) (pick (ltb count 7) (Group at (count + 1) (count + 1)) (Refused at)))
      (More 1)

  -- behind a colon: another, "one "::" anywhere", or a group; an address begins with no single colon. A colon or a digit, and the end, are fewest
  abbrev pub behind_colon : ℕ → ℕ → ℕ → Part
  behind_colon at count gap =
      pick (ltb at (length s))
      (pick (eqb (get_or s at 0) (code ":")) (pick (ltb 0 gap) (Refused at) (behind_double (at + 1) count)) (pick (eqb count 0) (Refused at) (Group at count gap)))
      (More 2)

  -- behind a group: a colon, where fewer than eight groups have come, or the end
  abbrev pub part_at : ℕ → ℕ → ℕ → Part
  part_at at count gap =
      pick (ltb at (length s))
      (pick (eqb (get_or s at 0) (code ":")) (pick (ltb count 8) (behind_colon (at + 1) count gap) (Refused at))
      (pick (eqb (get_or s at 0) end) (End at count gap) (Refused at)))
      (More (least_counted count gap))
