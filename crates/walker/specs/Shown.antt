-- What a walker's step shows.
use Rattle.std.specs.Prelude.{Option, Some, None, Result, Ok, Err}
use Rattle.tlv_step.specs.Step.{Step, shown, end, refused}
use Rattle.tlv_step.specs.declared.IllFormed.{IllFormed}
use Rattle.walker.specs.declared.Shown.{Shown}

-- the code's answer, by its number and values
abbrev pub told_shown : Result (Option Shown) IllFormed → Step
told_shown (Ok (Some s)) = shown s.tlv.tlv_type s.tlv.value.start s.tlv.value.size
told_shown (Ok None) = end
told_shown (Err e) = refused 12
