-- For proofs. The language of an UNKNOWN line's end. The leaf, whose verdicts are exact, stands in proofs/LineParser.antt.
use Rattle.std.specs.Prelude.{List, ℕ}
use Rattle.exact.specs.Valueless.{Valueless}
use Rattle.line_end.specs.Line.{FirstEnd}

-- ── the first byte of a line ──
abbrev pub LineEnd : ℕ → List ℕ → ℕ → Type 0
LineEnd limit = Valueless (FirstEnd limit)
