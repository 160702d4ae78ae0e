-- The program's line.
use Rattle.std.specs.Prelude.{List, ◌++◌, ℕ, Result, Ok, Err}
use Rattle.exact.specs.Ascii.{ascii}
use Rattle.record.specs.declared.Kind.{Kind}
use Rattle.record.specs.Kinds.{kind_word}
use Rattle.answer.specs.declared.Stop.{Stop}
use Rattle.answer.specs.declared.Stop.TheVariants.{More, Refused}
use Rattle.answer.specs.declared.Header.{Header}
use Rattle.answer.specs.Answers.{number_of}
use Rattle.draft.specs.Numeral.{decimal_text}

-- "one line ending in LF: `more`, `refused 3 at 13`, or `accepted 47 ip4-stream`"
abbrev pub line_of : (length : ℕ) → Kind → List ℕ
line_of length kind = ascii "accepted " ++ decimal_text length ++ ascii " " ++ kind_word kind ++ ascii "\n"

abbrev pub stop_line : Stop → List ℕ
stop_line (More n) = ascii "more\n"
stop_line (Refused refusal place) = ascii "refused " ++ decimal_text (number_of refusal) ++ ascii " at " ++ decimal_text place ++ ascii "\n"

abbrev pub answer_line : Result Header Stop → List ℕ
answer_line (Ok h) = line_of h.length h.«record».kind
answer_line (Err s) = stop_line s
