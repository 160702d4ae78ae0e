-- What a buffer holds when bytes were put into it.
use Rattle.std.specs.Prelude.{List, ◌++◌, ℕ, ◌+◌, leb, length, take, drop}
use Rattle.exact.specs.Pick.{pick}

-- the bytes, put at a place of the buffer, where they fit; else the buffer stays as it was
abbrev pub placed : List ℕ → ℕ → List ℕ → List ℕ
placed bytes at buffer =
    pick (leb (at + length bytes) (length buffer)) (take at buffer ++ bytes ++ drop (at + length bytes) buffer) buffer
