-- A record as the bytes of a connection, for C callers (include/dawnhawse.h).
use Rattle.std.specs.Prelude.{List, [], ◌∷◌, ◌++◌, ℕ}
use Rattle.exact.specs.Network.{network}
use Rattle.record.specs.declared.Record.{Record}
use Rattle.kind_code.specs.Codes.{code_of}
use Rattle.kind_code.specs.States.{state_byte}

-- 1 + 108 + 108 + 2 + 2 + 1
abbrev pub connection_size : ℕ
connection_size = 222

-- the kind code of the stored form, two addresses, two ports in network order, and the state
abbrev pub connection_bytes : Record → List ℕ
connection_bytes r =
    (code_of r.kind ∷ []) ++ r.source ++ r.destination ++ network r.source_port ++ network r.destination_port
    ++ (state_byte r.checksum ∷ [])
