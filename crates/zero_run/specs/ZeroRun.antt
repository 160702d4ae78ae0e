-- Runs of zero groups: "::" takes the place of the longest run, the first of equals (RFC 5952, sections 4.2.1 and 4.2.3).
use Rattle.std.specs.Prelude.{Bool, List, [], ◌∷◌, ℕ, zero, suc, ltb, Option, Some, None}
use Rattle.exact.specs.Pick.{pick}
use Rattle.zero_run.specs.declared.Run.{Run}

-- how many zeros come first
abbrev pub zeros_ahead : List ℕ → ℕ
zeros_ahead [] = 0
zeros_ahead (zero ∷ groups) = suc (zeros_ahead groups)
zeros_ahead (suc n ∷ groups) = 0

-- the same, with the first group apart: so many zeros come first behind it
abbrev pub zeros_with : (group behind : ℕ) → ℕ
zeros_with zero behind = suc behind
zeros_with (suc n) behind = 0

-- the run that comes first, of no groups where the first is not zero
abbrev pub run_ahead : List ℕ → Run
run_ahead groups = record { before = 0; count = zeros_ahead groups }

-- a run with one group more before it
abbrev pub onward : Run → Run
onward run = record { before = suc run.before; count = run.count }

-- whether a run is longer than the one before it: of equals it is not
abbrev pub is_longer : (first later : Run) → Bool
is_longer first later = ltb first.count later.count

-- the longest run, the first of equals: the one that comes first, unless there is a longer one behind the first group
abbrev pub longest_run : List ℕ → Run
longest_run [] = run_ahead []
longest_run (g ∷ groups) =
    pick (is_longer (run_ahead (g ∷ groups)) (onward (longest_run groups))) (onward (longest_run groups)) (run_ahead (g ∷ groups))

-- a run that has a group
abbrev pub some_run : Run → Option Run
some_run run = pick (ltb 0 run.count) (Some run) None
