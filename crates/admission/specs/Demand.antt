-- What holds of the answer to all tables and all bytes (document 02, K14): one answer is claimed; bytes behind the header change none but "more"; the
-- order of the rows does not matter; what one more row changes; where a level comes from; and that none is over 3.
use Rattle.std.specs.Prelude.{◌≡◌, ◌⊎◌, ℕ}
use mathlib.Core.List.{List, Memᴰ}
use Rattle.exact.specs.Claim as Claim
use Rattle.header.specs.Header.{Header}
use Rattle.header.specs.Demand.{Judges}
use Rattle.prefix.specs.Prefix.{Prefix, Matches}
use Rattle.prefix_table.specs.Table.{rows_of}
use Rattle.profile.specs.Profile.{Admission, admitted, more, refused, denied, Origin, local, stream, other, origin_of}

-- ── "a table with one more row of level l changes levels only for sources in that prefix" ──
-- a source lies in the prefix
abbrev pub InPrefix : Prefix → Origin → (source : List ℕ) → Type 0
InPrefix p local source = ⊥
InPrefix p (stream family) source = Matches p family source
InPrefix p other source = ⊥

-- ── "no source gets a level that no matching row has, but 0" ──
-- the level of an answer; 0 where there is none
abbrev pub level_of : Admission → ℕ
level_of (admitted level n start size) = level
level_of (more n) = 0
level_of (refused k p) = 0
level_of (denied k) = 0

-- the level is 0, or that of a row of the table in whose prefix the source of the header lies
abbrev pub FromRow : (table s : List ℕ) (level : ℕ) → Type 0
FromRow table s level =
    (level ≡ 0)
    ⊎ ((h : Header) × (n : ℕ) × (p : Prefix) × Judges (Claim.accepted h n) s × Memᴰ p (rows_of table) × InPrefix p (origin_of h.«record».kind) h.«record».source × (p.level ≡ level))
