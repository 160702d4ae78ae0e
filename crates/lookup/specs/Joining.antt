-- Joining TLV areas: document 02, K13. "Two suppliers append their areas": the join of the areas f and g is f ++ g, bytes behind bytes.
use Rattle.std.specs.Prelude.{◌≡◌, List, [], ◌++◌, ℕ, ◌+◌, ◌-◌}
use Rattle.lookup.specs.Lookup.{Finding, found, absent, gave_up, refused, Lookup}

-- ── 3. "joining is associative with the empty area neutral": of areas, lists of bytes, and of their lists of TLVs ──
pub record Joins (A : Type 0) : Type 0 where
  pub associative : (x y z : List A) → (x ++ y) ++ z ≡ x ++ (y ++ z)
  pub empty_first : (x : List A) → [] ++ x ≡ x
  pub empty_last : (x : List A) → x ++ [] ≡ x

-- ── 4. lookup in a join ──
-- "a found start moved by the first area's length"; well-formed areas are never refused
abbrev pub moved_start : Finding → ℕ → ℕ → ℕ
moved_start found size start = size + start
moved_start absent size start = start
moved_start gave_up size start = start
moved_start (refused number) size start = start

-- the answer in the second area as one in the join, behind c TLVs of so many bytes: "the counts added", and the start moved
abbrev pub behind : (c size : ℕ) → Lookup → Lookup
behind c size r =
    record {
      outcome = r.outcome;
      count = c + r.count;
      start = moved_start r.outcome size r.start;
      length = r.length;
    }

-- the answer in the first, or the other where that is absent; "Gave up in the first is gave up in the join"
abbrev pub first_or : Finding → Lookup → Lookup → Lookup
first_or found first other = first
first_or absent first other = other
first_or gave_up first other = first
first_or (refused number) first other = first

-- "lookup in a join is lookup in the first and, where that is absent with count c, lookup in the second with the limit less c":
-- the joined answer, of the first area's answer and length, and the second's answer to each limit
abbrev pub joined : (first : Lookup) (size : ℕ) (second : ℕ → Lookup) (limit : ℕ) → Lookup
joined first size second limit = first_or first.outcome first (behind first.count size (second (limit - first.count)))
