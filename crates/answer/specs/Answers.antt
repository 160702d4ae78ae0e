-- The readers' and the writers' answers in document 01's terms.
use Rattle.std.specs.Prelude.{◌≡◌, Bool, true, false, List, [], ◌++◌, ℕ, ◌+◌, eqb, leb, ltb, take, drop, Result, Ok, Err}
use Rattle.exact.specs.Pick.{pick}
use Rattle.record.specs.declared.Kind.{Kind}
use Rattle.record.specs.declared.Kind.TheVariants.{Local, Unspecified, Ip4, Ip6, Unix}
use Rattle.record.specs.Kinds.{block_length}
use Rattle.answer.specs.declared.Refusal.{Refusal}
use Rattle.answer.specs.declared.Refusal.TheVariants.{Start, Word, Address, Port, End, Command, Family, Length, Tlv}
use Rattle.answer.specs.declared.Fault.{Fault}
use Rattle.answer.specs.declared.Fault.TheVariants.{Form, Unused, Area, Size, Room, Version, State}

-- document 01, "Numbered answers"
abbrev pub number_of : Refusal → ℕ
number_of Start = 1
number_of Word = 2
number_of Address = 3
number_of Port = 4
number_of End = 5
number_of Command = 6
number_of Family = 7
number_of Length = 8
number_of Tlv = 9

-- the writers' refusals; 20 is a client without a version (document 02, K2), 24 a state that a stored form cannot say (K7)
abbrev pub fault_number : Fault → ℕ
fault_number Form = 10
fault_number Unused = 11
fault_number Area = 12
fault_number Size = 13
fault_number Room = 14
fault_number Version = 20
fault_number State = 24

-- what a writer answers: how many bytes it wrote, or the number of its refusal
pub data WriteAnswer : Type 0 where
  wrote : ℕ → WriteAnswer
  refuses : ℕ → WriteAnswer

abbrev pub told_written : Result ℕ Fault → WriteAnswer
told_written (Ok n) = wrote n
told_written (Err fault) = refuses (fault_number fault)

-- 13, "exceed 65,535 bytes"; 14, "the output is shorter than what must be written": by the length that is limited, that of all bytes, and the room
abbrev pub sized_answer : (limited text room : ℕ) → WriteAnswer
sized_answer limited text room =
    pick (ltb limited 65536) (pick (leb text room) (wrote text) (refuses 14)) (refuses 13)

-- "Refusals leave the output untouched; on success bytes past the written length stay"
abbrev pub output_after : WriteAnswer → (text output : List ℕ) → List ℕ
output_after (wrote n) text output = text ++ drop n output
output_after (refuses k) text output = output

-- "the TLV area is the part from 16 + A to the header's end; it is empty for version 1, local, unspecified"
abbrev pub block_area : Kind → List ℕ → List ℕ
block_area Local f = []
block_area Unspecified f = []
block_area (Ip4 t) f = drop (16 + block_length (Ip4 t)) f
block_area (Ip6 t) f = drop (16 + block_length (Ip6 t)) f
block_area (Unix t) f = drop (16 + block_length (Unix t)) f

abbrev pub area_of : ℕ → Kind → List ℕ → List ℕ
area_of version kind f = pick (eqb version 2) (block_area kind f) []
