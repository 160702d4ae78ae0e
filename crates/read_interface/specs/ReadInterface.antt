-- What `dawnhawse_read` and `dawnhawse_read_checked` answer and leave in the buffers that are lent to them: document 01's answers as numbers and bytes.
use Rattle.std.specs.Prelude.{◌≡◌, Bool, false, List, [], ◌∷◌, ℕ, ◌-◌, leb, length}
use Rattle.exact.specs.Claim as Claim
use Rattle.exact.specs.Claim.{accepted, more, refused}
use Rattle.exact.specs.Pick.{pick}
use Rattle.record.specs.declared.Kind.TheVariants.{Unspecified}
use Rattle.record.specs.declared.Record.{Record}
use Rattle.record.specs.Records.{bare}
use Rattle.header.specs.Header.{Header}
use Rattle.checksum.specs.Checked.{CheckedVerdict, judged, refuses}
use Rattle.lent.specs.Buffers.{over}
use Rattle.numbers.specs.Numbers.{numbers_size}
use Rattle.connection.specs.Connection.{connection_size, connection_bytes}

-- what a C caller is told: an answer, four numbers, and a record
pub record Spoken : Type 0 where
  pub answer : ℕ
  pub numbers : List ℕ
  pub «record» : Record

-- a record that says nothing, where no header is accepted
abbrev pub nobody : (answer first : ℕ) → Spoken
nobody answer first = record { answer = answer; numbers = first ∷ 0 ∷ 0 ∷ 0 ∷ []; «record» = bare Unspecified }

-- "Numbered answers": the refusal's number; 0 is accepted, 255 is more. The numbers are the header length, how few further bytes could make a whole
-- header (document 02, K10), or the place; the version, and where the TLV area starts and its length: it is the header's last bytes
abbrev pub spoken : Claim.Verdict Header → Spoken
spoken (accepted h n) =
    record { answer = 0; numbers = n ∷ h.version ∷ (n - length h.area) ∷ length h.area ∷ []; «record» = h.«record» }
spoken (more n) = nobody 255 n
spoken (refused k p) = nobody k p

-- "A checked reading gives 23, without a place" (document 02, K6)
abbrev pub spoken_checked : CheckedVerdict → Spoken
spoken_checked (judged v) = spoken v
spoken_checked (refuses k) = nobody k 0

-- "the output is shorter than what must be written": room for the numbers and the connection
abbrev pub room_for : List ℕ → List ℕ → Bool
room_for numbers connection = pick (leb numbers_size (length numbers)) (leb connection_size (length connection)) false

-- the answer, and what is left in the two buffers: with too little room 14, and both as they were
abbrev pub read_answer : Spoken → List ℕ → List ℕ → ℕ
read_answer v numbers connection = pick (room_for numbers connection) v.answer 14

abbrev pub read_numbers : Spoken → List ℕ → List ℕ → List ℕ
read_numbers v numbers connection = pick (room_for numbers connection) (over v.numbers numbers) numbers

abbrev pub read_connection : Spoken → List ℕ → List ℕ → List ℕ
read_connection v numbers connection =
    pick (room_for numbers connection) (over (connection_bytes v.«record») connection) connection

-- what `dawnhawse_read` and `dawnhawse_read_checked` leave of what they tell: the answer, the numbers and the connection
abbrev pub ReadTold : Spoken → (numbers connection : List ℕ) → ℕ → (numbers_left connection_left : List ℕ) → Type 0
ReadTold v numbers connection answer numbers_left connection_left =
    (answer ≡ read_answer v numbers connection) × (numbers_left ≡ read_numbers v numbers connection) × (connection_left ≡ read_connection v numbers connection)
