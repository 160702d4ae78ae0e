-- The field of a header of either version, and the verdict on the bytes so far: by proofs/Exactness.antt it is the one that the claim of demand 3 allows, and no
-- other is.
use Rattle.std.specs.Prelude.{false, List, ℕ}
use Rattle.exact.specs.Claim.{Verdict}
use Rattle.exact.specs.Parser.{Starts}
use Rattle.exact.proofs.ParserLemmas.{either}
use Rattle.exact.proofs.Parser.{starts_seq}
use Rattle.exact.proofs.LiteralLaws.{starts_text}
use Rattle.header.specs.Header.{Header}
use Rattle.fields.specs.LineFields.{Headers}
use Rattle.fields.proofs.BlockFields.{block}
use Rattle.fields.specs.Exactness.{is_p, line_field, line_starts}

-- ── the header ──
pub block_starts : Starts is_p false block.field
block_starts = starts_seq is_p false _ _ (starts_text {A = ℕ} is_p 1 0 0x0D _)

abbrev pub header : Headers
header = either is_p line_field block line_starts block_starts

-- the verdict on the bytes so far, as a function
abbrev pub verdict : List ℕ → Verdict Header
verdict s = header.verdict s
