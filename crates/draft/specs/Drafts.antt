-- What a draft holds: text composed in bytes that are lent.
use Rattle.std.specs.Prelude.{◌≡◌, List, [], ◌∷◌, ℕ, ◌+◌, ltb, length, set}
use Rattle.exact.specs.Pick.{pick}
use Rattle.draft.specs.declared.Draft.{Draft as InMemory}

-- the text so far: the first of the bytes, as many as the length says
pub record Draft : Type 0 where
  pub bytes : List ℕ
  pub length : ℕ

abbrev pub drafted : (bytes : List ℕ) (length : ℕ) → Draft
drafted bytes n = record { bytes = bytes; length = n }

-- a byte behind what a draft has; where there is no room for it, the draft stays
unfoldable pub pushed : Draft → ℕ → Draft
pushed d byte = pick (ltb d.length (length d.bytes)) (drafted (set d.bytes d.length byte) (d.length + 1)) d

-- a text behind what a draft has, byte by byte
unfoldable pub appended : Draft → List ℕ → Draft
appended d [] = d
appended d (byte ∷ text) = appended (pushed d byte) text

-- what a draft in memory holds
abbrev pub text_of : InMemory → Draft
text_of d = drafted d.bytes.now d.length

-- a draft with a text more, in the same bytes
pub record Adds (before after : InMemory) (text : List ℕ) : Type 0 where
  pub same_bytes : after.bytes.ghost_name ≡ before.bytes.ghost_name
  pub appends : text_of after ≡ appended (text_of before) text
