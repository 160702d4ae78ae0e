-- Which run `longest_run` is, by its properties: "the longest (…), the first of equals" (RFC 5952, section 4.2), so that every other is shorter, or as long and later.
use Rattle.std.specs.Prelude.{◌≡◌, List, ℕ, ◌≤◌, take, drop, replicate}
use Rattle.zero_run.specs.declared.Run.{Run}

-- the groups of a run are zeros
abbrev pub Zeros : List ℕ → Run → Type 0
Zeros groups run = take run.count (drop run.before groups) ≡ replicate run.count 0

-- another run is no longer, and if as long then not before it
abbrev pub ShorterOrLater : (run other : Run) → Type 0
ShorterOrLater run other = (other.count ≤ run.count) × (other.count ≡ run.count → run.before ≤ other.before)

-- "the longest run (…), the first of equals"
pub record FirstLongest (groups : List ℕ) (run : Run) : Type 0 where
  pub zeros : Zeros groups run
  pub others : (other : Run) → Zeros groups other → ShorterOrLater run other
