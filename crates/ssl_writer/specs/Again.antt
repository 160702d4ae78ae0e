-- "every value that reads without refusal, repeats or other types, written again, reads the same"; it is then as long as it was. With repeats or other
-- types it reads the same too, and is no longer.
use Rattle.std.specs.Prelude.{◌≡◌, not, List, [], ◌∷◌, ℕ, ◌≤◌, length}
use Rattle.tlv.specs.Tlv.{Tlv}
use Rattle.lookup.specs.Lookup.{index_of_first}
use Rattle.answer.specs.Answers.{wrote}
use Rattle.ssl_reader.specs.Ssl.{subs_of, is_absent, Said, pieces_in}
use Rattle.ssl_reader.specs.declared.Ssl.{Ssl}
use Rattle.ssl_writer.specs.Written.{Present, ssl_value, ssl_answer}
use Rattle.ssl_writer.specs.Writes.{ReadsAs}

-- "without .. repeats or other types"
abbrev pub Plain : List Tlv → Type 0
Plain [] = Unit {0}
Plain (t ∷ rest) = (0x21 ≤ t.type) × (t.type ≤ 0x25) × (index_of_first t.type rest ≡ length rest) × Plain rest

-- ── the theorem ──
-- what is written where a value that says this is written again
abbrev pub text_of : (value : List ℕ) → Said → List ℕ
text_of value s = ssl_value s.client s.verify (pieces_in value s.parts)

pub record Again (value : List ℕ) (s : Said) : Type 0 where
  -- it is accepted, given room
  pub answers : (room : ℕ) → length (text_of value s) ≤ room
      → ssl_answer s.client s.verify (pieces_in value s.parts) room ≡ wrote (length (text_of value s))
  -- it reads the same
  pub reads : ReadsAs (text_of value s) s.client s.verify (pieces_in value s.parts)
  -- it is no longer than the value, and without repeats or other types as long
  pub within : length (text_of value s) ≤ length value
  pub as_long : Plain (subs_of value) → length (text_of value s) ≡ length value

-- ── of calls ──
abbrev pub present_in : Ssl → Present
present_in r =
    record {
      version = not (is_absent r.version);
      common_name = not (is_absent r.common_name);
      cipher = not (is_absent r.cipher);
      signature = not (is_absent r.signature);
      key = not (is_absent r.key);
    }
