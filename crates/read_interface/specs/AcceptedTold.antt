-- For proofs. What `read` has told of an accepted header, for functions that go by it.
use Rattle.std.specs.Prelude.{List, [], ◌∷◌, ◌++◌, ℕ}
use Rattle.exact.specs.Network.{network}
use Rattle.record.specs.declared.Record.{Record}
use Rattle.kind_code.specs.Codes.{code_of}

-- the bytes of a connection before its state
abbrev pub all_but_state : Record → List ℕ
all_but_state r = (code_of r.kind ∷ []) ++ r.source ++ r.destination ++ network r.source_port ++ network r.destination_port
