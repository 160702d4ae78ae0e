-- For proofs. The language of n bytes that TLVs fill. The leaf, whose verdicts are exact, stands in proofs/RegionLeaf.antt.
use Rattle.std.specs.Prelude.{List, ℕ}
use Rattle.exact.specs.Valueless.{Valueless}
use Rattle.tlv.specs.Tlv.{Filled}

-- ── the parser ──
abbrev pub Region : ℕ → List ℕ → ℕ → Type 0
Region n = Valueless (Filled n)
