-- How few bytes could follow a version 2 header's first bytes, where no whole length is among them.
use Rattle.std.specs.Prelude.{List, ℕ, ◌+◌, ltb, length, get_or}
use Rattle.exact.specs.Network.{number}
use Rattle.exact.specs.Pick.{pick}
use Rattle.fields.specs.Lengths.{lowest}

-- the length and an address block of a bytes, or behind the high length byte the low one that frames the shortest block, and that block
abbrev pub shortest : ℕ → List ℕ → ℕ
shortest a s = pick (ltb 14 (length s)) (1 + number (get_or s 14 0) (lowest a (get_or s 14 0))) (2 + a)
