-- What the C functions that load a connection answer and leave (document 01, "Stored form, version 1"; document 02, K7).
use Rattle.std.specs.Prelude.{◌≡◌, List, ℕ, leb, length}
use Rattle.exact.specs.Pick.{pick}
use Rattle.stored_form.specs.Loading.{LoadAnswer, loaded_record}
use Rattle.lent.specs.Buffers.{told_in}
use Rattle.connection.specs.Connection.{connection_size, connection_bytes}
use Rattle.numbers.specs.Numbers.{load_number}

-- the answer, and what is left in the connection: with too little room 14, and the bytes as they were
abbrev pub loaded_number : LoadAnswer → List ℕ → ℕ
loaded_number l connection = pick (leb connection_size (length connection)) (load_number l) 14

abbrev pub loaded_connection : LoadAnswer → List ℕ → List ℕ
loaded_connection l connection = told_in connection_size (connection_bytes (loaded_record l)) connection

-- what `dawnhawse_load` and `dawnhawse_load_v2` leave of the reader's answer
abbrev pub LoadTold : LoadAnswer → (connection : List ℕ) → ℕ → (connection_left : List ℕ) → Type 0
LoadTold l connection answer connection_left = (answer ≡ loaded_number l connection) × (connection_left ≡ loaded_connection l connection)
