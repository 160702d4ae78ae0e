-- What the C functions for TLV 0x20 answer and leave.
use Rattle.std.specs.Prelude.{◌≡◌, Bool, List, [], ◌∷◌, ℕ, ◌/◌, ◌%◌, ◌^◌, eqb, leb, length, Option}
use Rattle.exact.specs.Pick.{pick}
use Rattle.lent.specs.Buffers.{told_in}
use Rattle.numbers.specs.Numbers.{room_beside}
use Rattle.ssl_reader.specs.Ssl.{Outcome, accepted, refused, Part, Said}
use Rattle.ssl_reader.specs.Told.{part_start, part_size}
use Rattle.ssl_writer.specs.Written.{Piece, Present, ssl_value, ssl_answer}
use Rattle.write_interface.specs.WriteInterface.{Writes}

-- ── reading ──
-- 0, or the number of the refusal
abbrev pub outcome_number : Outcome → ℕ
outcome_number accepted = 0
outcome_number (refused number) = number

-- where each piece starts in the value, and its length; an absent one has 0 and 0
abbrev pub part_numbers : List (Option Part) → List ℕ
part_numbers [] = []
part_numbers (p ∷ rest) = part_start p ∷ part_size p ∷ part_numbers rest

-- client, verify, and the five pieces; so a refusal tells twelve zeros
abbrev pub said_numbers : Said → List ℕ
said_numbers s = s.client ∷ s.verify ∷ part_numbers s.parts

-- with room for twelve numbers they are told; else 14, and they are as they were
pub record SslTold (s : Said) (numbers : List ℕ) (answer : ℕ) (after : List ℕ) : Type 0 where
  pub answers : answer ≡ pick (leb 12 (length numbers)) (outcome_number s.outcome) 14
  pub left : after ≡ told_in 12 (said_numbers s) numbers

-- ── writing ──
-- "bit i of present says that piece 0x21 + i is there"; higher bits say nothing
abbrev pub is_there : (i present : ℕ) → Bool
is_there i present = eqb (present / 2 ^ i % 2) 1

abbrev pub present_of : (present : ℕ) → Present
present_of n = record { version = is_there 0 n; common_name = is_there 1 n; cipher = is_there 2 n; signature = is_there 3 n; key = is_there 4 n }

abbrev pub WritesSsl : (client verify : ℕ) (pieces : List Piece) (output numbers : List ℕ) → ℕ → (output_left numbers_left : List ℕ) → Type 0
WritesSsl client verify pieces output numbers =
    Writes (ssl_answer client verify pieces (room_beside (length numbers) (length output))) (ssl_value client verify pieces) output numbers
