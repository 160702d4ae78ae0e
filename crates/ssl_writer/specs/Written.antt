-- What the writer of TLV 0x20's value writes and answers.
use Rattle.std.specs.Prelude.{Bool, List, [], ◌∷◌, ◌++◌, ℕ, suc, length, map, get_or, Option, Some, None, option_copied}
use Rattle.std.specs.Borrow.{Bor}
use Rattle.exact.specs.Pick.{pick}
use Rattle.network32.specs.Network32.{network32}
use Rattle.tlv.specs.Tlv.{Tlv, written}
use Rattle.answer.specs.Answers.{WriteAnswer, refuses, sized_answer}
use Rattle.ssl_reader.specs.Ssl.{is_absent, lacks_version}

-- a piece is present, with its bytes, or absent
abbrev pub Piece : Type 0
Piece = Option (List ℕ)

abbrev pub piece_if : Bool → List ℕ → Piece
piece_if there bytes = pick there (Some bytes) None

-- pieces as they are lent
abbrev pub lent_pieces : List (Option (Bor (List ℕ))) → List Piece
lent_pieces = map option_copied

-- which of the five pieces are present
pub record Present : Type 0 where
  pub version : Bool
  pub common_name : Bool
  pub cipher : Bool
  pub signature : Bool
  pub key : Bool

-- the five pieces, "in order of type": version, common name, cipher, signature algorithm, key algorithm
abbrev pub pieces_of : Present → (version common_name cipher signature key : List ℕ) → List Piece
pieces_of p version common_name cipher signature key =
    piece_if p.version version ∷ piece_if p.common_name common_name ∷ piece_if p.cipher cipher ∷ piece_if p.signature signature ∷ piece_if p.key key ∷ []

-- the sub-TLVs of pieces, of which the first has this type and each other the next one
abbrev pub subs_for : (type : ℕ) → List Piece → List Tlv
subs_for type [] = []
subs_for type (None ∷ rest) = subs_for (suc type) rest
subs_for type (Some bytes ∷ rest) = record { type = type; value = bytes } ∷ subs_for (suc type) rest

-- "A writer makes the value from such pieces": "one client byte, a 32-bit verify number in network order, then sub-TLVs"
abbrev pub ssl_value : (client verify : ℕ) → List Piece → List ℕ
ssl_value client verify pieces = client ∷ network32 verify ++ written (subs_for 0x21 pieces)

-- "It checks 20, then 13 for a piece or the value over 65,535 bytes, then 14": a value is longer than each of its pieces (`piece_within` in `ReadBack.antt`), so that its length decides
abbrev pub ssl_answer : (client verify : ℕ) (pieces : List Piece) (room : ℕ) → WriteAnswer
ssl_answer client verify pieces room =
    pick (lacks_version client (is_absent (get_or pieces 0 None))) (refuses 20)
    (sized_answer (length (ssl_value client verify pieces)) (length (ssl_value client verify pieces)) room)
