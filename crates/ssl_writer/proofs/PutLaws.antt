-- The pieces of a value, put one behind the other, and their lengths.
use Rattle.std.specs.Prelude.{Some, None, min}
use mathlib.Core.Path.{◌≡◌, refl, sym, ap, ◌∙◌}
use mathlib.Core.List.{List, [], ◌∷◌, ◌++◌, append-nil, append_assoc}
use Prim.Native.Nat.{ℕ, suc, ◌+◌, ◌≤◌, ◌<◌}
use native.Mathlib.Omega.{arith}
use borrow.Author.Tests.{lt-ltb, le-leb}
use lib.ListN.{length, length-append, get_or}
use Rattle.exact.specs.Claim.{AllBytes}
use Rattle.exact.specs.Pick.{pick}
use Rattle.exact.proofs.Parser.{bytes_front, bytes_back}
use Rattle.lent.specs.Placed.{placed}
use Rattle.lent.proofs.PlacedLaws.{placed_then, placed-length}
use Rattle.tlv.specs.Tlv.{tlv_bytes, written}
use Rattle.answer.specs.Answers.{refuses, sized_answer}
use Rattle.ssl_reader.specs.Ssl.{is_absent, lacks_version}
use Rattle.ssl_writer.specs.Written.{Piece, subs_for, ssl_value, ssl_answer}
use Rattle.ssl_writer.specs.ReadBack.{OfBytes}
use Rattle.ssl_writer.specs.Steps.{piece_size, size_from, answer_by, piece_placed, piece_behind, pieces_placed}

-- the bytes of a piece
abbrev pub piece_bytes : (type : ℕ) → Piece → List ℕ
piece_bytes type None = []
piece_bytes type (Some bytes) = tlv_bytes type bytes

-- pieces behind some bytes, the one behind the other
abbrev pub value_from : List ℕ → (type : ℕ) → List Piece → List ℕ
value_from text type [] = text
value_from text type (p ∷ rest) = value_from (text ++ piece_bytes type p) (suc type) rest

one_more : (type : ℕ) (p : Piece) (rest : List Piece) → written (subs_for type (p ∷ rest)) ≡ piece_bytes type p ++ written (subs_for (suc type) rest)
one_more type None rest = refl
one_more type (Some bytes) rest = refl

pub value_from_lem : (text : List ℕ) (type : ℕ) (pieces : List Piece) → value_from text type pieces ≡ text ++ written (subs_for type pieces)
value_from_lem text type [] = sym (append-nil text)
value_from_lem text type (p ∷ rest) =
    value_from_lem (text ++ piece_bytes type p) (suc type) rest
    ∙ append_assoc text (piece_bytes type p) (written (subs_for (suc type) rest))
    ∙ ap (λ (l : List ℕ). text ++ l) (sym (one_more type p rest))

-- a value of bytes is of pieces of bytes
pub of_bytes : (type : ℕ) (pieces : List Piece) → AllBytes (written (subs_for type pieces)) → OfBytes pieces
of_bytes type [] b = tt
of_bytes type (None ∷ rest) b = of_bytes (suc type) rest b
of_bytes type (Some bytes ∷ rest) b =
    (bytes_front bytes (written (subs_for (suc type) rest)) b.1.1.1, of_bytes (suc type) rest (bytes_back bytes (written (subs_for (suc type) rest)) b.1.1.1))

-- ── lengths ──
one_size : (type : ℕ) (p : Piece) → length (piece_bytes type p) ≡ piece_size p
one_size type None = refl
one_size type (Some bytes) = omega arith

size_behind : (counted type : ℕ) (pieces : List Piece) → size_from counted pieces ≡ counted + length (written (subs_for type pieces))
size_behind counted type [] = omega arith
size_behind counted type (p ∷ rest) =
    let e = one_size type p in
    let n = length-append (piece_bytes type p) (written (subs_for (suc type) rest)) in
    let m = ap length (one_more type p rest) in
    size_behind (counted + piece_size p) (suc type) rest ∙ omega arith

-- what is answered by the lengths is what is defined of the pieces
pub answers_same : (client verify : ℕ) (pieces : List Piece) (room : ℕ) → answer_by client pieces room ≡ ssl_answer client verify pieces room
answers_same client verify pieces room =
    let size : size_from 5 pieces ≡ length (ssl_value client verify pieces) = size_behind 5 0x21 pieces ∙ omega arith in
    ap (λ (n : ℕ). pick (lacks_version client (is_absent (get_or pieces 0 None))) (refuses 20) (sized_answer n n room)) size

-- lengths that are alike up to a bound stay so
pub size_stops : (counted other : ℕ) (pieces : List Piece) → min counted 65536 ≡ min other 65536
    → min (size_from counted pieces) 65536 ≡ min (size_from other pieces) 65536
size_stops counted other [] e = e
size_stops counted other (p ∷ rest) e = size_stops (counted + piece_size p) (other + piece_size p) rest (omega arith)

-- ── the output ──
-- it holds a text at its front, and the place is behind that
pub record Wrote (output text after : List ℕ) (at : ℕ) : Type 0 where
  pub holds : after ≡ placed text 0 output
  pub place : at ≡ length text

pub from_longer : (text : List ℕ) (type : ℕ) (pieces : List Piece) → length text ≤ length (value_from text type pieces)
from_longer text type [] = omega arith
from_longer text type (p ∷ rest) =
    let n = length-append text (piece_bytes type p) in let h = from_longer (text ++ piece_bytes type p) (suc type) rest in omega arith

-- a further piece of a value that has at most 65,535 bytes and fits
module _ (output text before : List ℕ) (at type : ℕ) (rest : List Piece) where
  next : (p : Piece) → Wrote output text before at → length (value_from text type (p ∷ rest)) < 65536
      → length (value_from text type (p ∷ rest)) ≤ length output
      → Wrote output (text ++ piece_bytes type p) (piece_placed type p at before) (piece_behind type p at (length before))
  next None w short room =
      let alone = sym (append-nil text) in
      record { holds = w.holds ∙ ap (λ (l : List ℕ). placed l 0 output) alone; place = w.place ∙ ap length alone }
  next (Some bytes) w short room =
      let h = from_longer (text ++ tlv_bytes type bytes) (suc type) rest in
      let n = length-append text (tlv_bytes type bytes) in
      let same : length before ≡ length output = ap length w.holds ∙ placed-length text 0 output (omega arith) in
      let small = lt-ltb (length bytes) 65536 (omega arith) in
      let fits = le-leb (at + length (tlv_bytes type bytes)) (length before) (omega (arith, w.place)) in
      record {
        holds = rw small (placed_then text (tlv_bytes type bytes) output before (placed (tlv_bytes type bytes) at before) 0 at w.holds refl (omega (arith, w.place)) (omega arith));
        place = rw (small, fits) (omega (arith, w.place));
      }

-- all of them
pub put_all : (output text before : List ℕ) (at type : ℕ) (pieces : List Piece) → Wrote output text before at
    → length (value_from text type pieces) < 65536 → length (value_from text type pieces) ≤ length output
    → pieces_placed type pieces at before ≡ placed (value_from text type pieces) 0 output
put_all output text before at type [] w short room = w.holds
put_all output text before at type (p ∷ rest) w short room =
    put_all output (text ++ piece_bytes type p) (piece_placed type p at before) (piece_behind type p at (length before)) (suc type) rest
    (next output text before at type rest p w short room) short room
