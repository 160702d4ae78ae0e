-- What a lent record is after a reading of stored bytes.
use Rattle.std.specs.Prelude.{Result, Ok, Err, ⊤}
use Rattle.record.specs.declared.Record.{Record}
use Rattle.stored_form.specs.declared.Flaw.{Flaw}
use Rattle.stored_form.specs.Loading.{LoadAnswer, loads, no_record, flaw_number}

-- the record that was put, or why none was
abbrev pub told_into : Result ⊤ Flaw → Record → LoadAnswer
told_into (Ok done) r = loads r
told_into (Err flaw) r = no_record (flaw_number flaw)
