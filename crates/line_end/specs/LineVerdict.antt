-- The verdict on an UNKNOWN line's end, byte by byte.
use Rattle.std.specs.Prelude.{Bool, true, false, List, ℕ, ◌+◌, ◌-◌, eqb, leb, ltb}
use Rattle.exact.specs.Claim.{Verdict}
use Rattle.exact.specs.Machine.{Move, go, done, dead, run}
use Rattle.exact.specs.Pick.{pick}

-- whether the last byte was CR, and how many bytes may still come
pub data Line : Type 0 where
  line : Bool → ℕ → Line

-- how few bytes could end the line: LF behind CR, else CR and LF
abbrev pub ending : Bool → ℕ
ending is-cr = pick is-cr 1 2

-- the fewest bytes of a line that begins with a byte and not with its end: that byte, and what could end the line behind it
abbrev pub least : Bool → ℕ
least is-cr = 1 + ending is-cr

-- a byte that does not end the line
abbrev pub pass : Bool → ℕ → ℕ → Move Line ℕ
pass is-cr left c = pick (leb (least is-cr) left) (pick (ltb c 256) (go (line is-cr (left - 1))) dead) dead

abbrev pub step_line : Line → ℕ → Move Line ℕ
step_line (line true left) c = pick (eqb c 10) (done 0) (pass (eqb c 13) left c)
step_line (line false left) c = pass (eqb c 13) left c

-- and then m
abbrev pub least_line : ℕ → Line → ℕ
least_line m (line is-cr left) = ending is-cr + m

-- m is what is asked behind the line
abbrev pub line_verdict : (k m limit : ℕ) → List ℕ → Verdict ℕ
line_verdict k m limit s = run k step_line (least_line m) s (line false limit)
