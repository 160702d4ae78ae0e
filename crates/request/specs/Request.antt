-- What the bytes of a connection ask of a writer (include/dawnhawse.h).
use Rattle.std.specs.Prelude.{List, ℕ, eqb, length, take, drop, get_or, Option, Some, None, Result, Ok, Err}
use Rattle.exact.specs.Network.{number_at}
use Rattle.exact.specs.Pick.{pick}
use Rattle.record.specs.declared.Kind.{Kind}
use Rattle.record.specs.declared.Kind.TheVariants.{Unspecified}
use Rattle.record.specs.declared.Checksum.{Checksum}
use Rattle.record.specs.declared.Record.{Record}
use Rattle.record.specs.Records.{record_with, bare}
use Rattle.kind_code.specs.Codes.{kind_of}
use Rattle.kind_code.specs.States.{state_of}
use Rattle.request.specs.declared.RequestError.{RequestError}
use Rattle.request.specs.declared.RequestError.TheVariants.{Length, Code}
use Rattle.connection.specs.Connection.{connection_size}

-- the record of a connection's bytes: `connection_bytes` the other way
abbrev pub given_record : Kind → Checksum → List ℕ → Record
given_record k c b = record_with k (take 108 (drop 1 b)) (take 108 (drop 109 b)) (number_at b 217) (number_at b 219) c

-- 18 for another length, 17 for an unknown kind code, as the stored form's reader says, and for a byte of no state
abbrev pub error_number : RequestError → ℕ
error_number Length = 18
error_number Code = 17

abbrev pub by_state : Kind → Option Checksum → List ℕ → Result Record RequestError
by_state k (Some c) b = Ok (given_record k c b)
by_state k None b = Err Code

abbrev pub by_kind : Option Kind → List ℕ → Result Record RequestError
by_kind (Some k) b = by_state k (state_of (get_or b 221 0)) b
by_kind None b = Err Code

-- what a writer is asked for: a record, or why none
abbrev pub request : List ℕ → Result Record RequestError
request b = pick (eqb (length b) connection_size) (by_kind (kind_of (get_or b 0 0)) b) (Err Length)

-- 0, or the number that refuses a request before a record is looked at
abbrev pub asked_number : Result Record RequestError → ℕ
asked_number (Ok r) = 0
asked_number (Err e) = error_number e

-- the record that is asked for; where none is, the one that says nothing of a caller
abbrev pub asked_record : Result Record RequestError → Record
asked_record (Ok r) = r
asked_record (Err e) = bare Unspecified
