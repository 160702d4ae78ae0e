-- Who is calling, as a text line says it, and the record of that.
use Rattle.std.specs.Prelude.{ℕ, take, replicate}
use Rattle.record.specs.declared.Kind.{Kind}
use Rattle.record.specs.declared.Record.{Record}
use Rattle.record.specs.Kinds.{address_length}
use Rattle.record.specs.Records.{record_of}
use Rattle.answer.specs.declared.Caller.{Caller}

-- a caller of whom only the kind is known
abbrev pub kind_only : Kind → Caller
kind_only k =
    record { kind = k; source = replicate 16 0; destination = replicate 16 0; source_port = 0; destination_port = 0 }

-- the record of a caller, as a text line says it
abbrev pub caller_record : Caller → Record
caller_record c =
    record_of c.kind (take (address_length c.kind) c.source) (take (address_length c.kind) c.destination) c.source_port
    c.destination_port

-- the caller of a record, as a text line says it: the longest address of a line fills sixteen bytes, and behind a shorter one a record has zeros
abbrev pub caller_of : Record → Caller
caller_of r =
    record { kind = r.kind; source = take 16 r.source; destination = take 16 r.destination; source_port = r.source_port; destination_port = r.destination_port }
