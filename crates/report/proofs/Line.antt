-- Lemmas on what specs/Line.antt defines.
use Rattle.std.specs.Prelude.{◌≡◌, Ok}
use Rattle.exact.specs.Ascii.{ascii}
use Rattle.record.specs.declared.Transport.TheVariants.{Stream}
use Rattle.record.specs.declared.Kind.TheVariants.{Ip4}
use Rattle.answer.specs.declared.Header.{Header}
use Rattle.draft.specs.Numeral.{numeral}
use Rattle.report.specs.Line.{answer_line}

-- "Case W02 gives exactly `accepted 47 ip4-stream`"
pub w02 : (h : Header) → h.length ≡ 47 → h.«record».kind ≡ Ip4 Stream → answer_line (Ok h) ≡ ascii "accepted 47 ip4-stream\n"
unfolding numeral
w02 h n k = rw (n, k)
