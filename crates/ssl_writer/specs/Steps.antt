-- For proofs. What the writer's own functions promise: how long a value is, by the lengths of its pieces, and what is answered by that; what an output
-- holds when pieces were put into it, and the place behind one.
use Rattle.std.specs.Prelude.{List, [], ◌∷◌, ℕ, suc, ◌+◌, length, get_or, Some, None}
use Rattle.exact.specs.Pick.{pick}
use Rattle.answer.specs.Answers.{WriteAnswer, refuses, sized_answer}
use Rattle.tlv_writer.specs.Put.{tlv_placed, place_behind}
use Rattle.ssl_reader.specs.Ssl.{is_absent, lacks_version}
use Rattle.ssl_writer.specs.Written.{Piece}

-- a sub-TLV has three bytes in front of its value
abbrev pub piece_size : Piece → ℕ
piece_size None = 0
piece_size (Some bytes) = 3 + length bytes

-- the length of a value with these pieces behind the bytes that are counted
abbrev pub size_from : ℕ → List Piece → ℕ
size_from counted [] = counted
size_from counted (p ∷ rest) = size_from (counted + piece_size p) rest

abbrev pub answer_by : (client : ℕ) → List Piece → (room : ℕ) → WriteAnswer
answer_by client pieces room =
    pick (lacks_version client (is_absent (get_or pieces 0 None))) (refuses 20) (sized_answer (size_from 5 pieces) (size_from 5 pieces) room)

abbrev pub piece_placed : (type : ℕ) → Piece → (at : ℕ) → List ℕ → List ℕ
piece_placed type None at output = output
piece_placed type (Some bytes) at output = tlv_placed type bytes at output

abbrev pub piece_behind : (type : ℕ) → Piece → (at room : ℕ) → ℕ
piece_behind type None at room = at
piece_behind type (Some bytes) at room = place_behind type bytes at room

-- the one behind the other, of which the first has this type and each other the next one
abbrev pub pieces_placed : (type : ℕ) → List Piece → (at : ℕ) → List ℕ → List ℕ
pieces_placed type [] at output = output
pieces_placed type (p ∷ rest) at output = pieces_placed (suc type) rest (piece_behind type p at (length output)) (piece_placed type p at output)
