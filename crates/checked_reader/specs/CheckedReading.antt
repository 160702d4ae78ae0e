-- What a checked reading answers, in the claim's words and its number.
use Rattle.std.specs.Prelude.{List, ℕ, Result, Ok, Err}
use Rattle.answer.specs.declared.Header.{Header}
use Rattle.answer.specs.Headers.{told_stop, told_header}
use Rattle.checksum.specs.Checked.{CheckedVerdict, judged, refuses}
use Rattle.checked_reader.specs.declared.CheckedStop.{CheckedStop}
use Rattle.checked_reader.specs.declared.CheckedStop.TheVariants.{Stop, WrongChecksum}

abbrev pub told_stopped : CheckedStop → CheckedVerdict
told_stopped (Stop e) = judged (told_stop e)
told_stopped WrongChecksum = refuses 23

-- the answer to the bytes s as a checked verdict on them
abbrev pub told_checked : List ℕ → Result Header CheckedStop → CheckedVerdict
told_checked s (Ok h) = judged (told_header s (Ok h))
told_checked s (Err e) = told_stopped e
