-- What bytes 12 and 13 of a version 2 header say.
use Rattle.std.specs.Prelude.{Bool, true, false, List, ℕ, ltb, length, get_or, Option, Some, None, Result, Ok, Err}
use Rattle.record.specs.declared.Kind.{Kind}
use Rattle.record.specs.declared.Kind.TheVariants.{Local}
use Rattle.record.specs.Kinds.{family}
use Rattle.fields.specs.BlockFields.{Command, local, proxy, command_of}
use Rattle.answer.specs.declared.Refusal.TheVariants.{Command as OfCommand, Family}
use Rattle.answer.specs.declared.Stop.{Stop}
use Rattle.answer.specs.declared.Stop.TheVariants.{More, Refused}

-- the kind that byte 13 says under PROXY
abbrev pub known : Option Kind → Result Kind Stop
known (Some k) = Ok k
known None = Err (Refused Family 13)

-- by the command, whether byte 13 is there, and what it says; before byte 13 the least is it and a length of 0: 1 + 2
abbrev pub under : Option Command → Bool → Option Kind → Result Kind Stop
under None b f = Err (Refused OfCommand 12)
under (Some c) false f = Err (More 3)
under (Some local) true f = Ok Local
under (Some proxy) true f = known f

-- before the command the least is the command, byte 13 and a length of 0: 1 + 1 + 2
abbrev pub kind_by : Bool → Result Kind Stop → Result Kind Stop
kind_by true r = r
kind_by false r = Err (More 4)

abbrev pub kind_at : List ℕ → Result Kind Stop
kind_at s = kind_by (ltb 12 (length s)) (under (command_of (get_or s 12 0)) (ltb 13 (length s)) (family (get_or s 13 0)))
