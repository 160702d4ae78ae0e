-- What a lent buffer holds after a call.
use Rattle.std.specs.Prelude.{List, ◌++◌, ℕ, leb, length, drop}
use Rattle.exact.specs.Pick.{pick}

-- its front is written; the rest stays as it was
abbrev pub over : List ℕ → List ℕ → List ℕ
over front buffer = front ++ drop (length front) buffer

-- the same where the buffer has room for n elements; else it stays as it was
abbrev pub told_in : ℕ → List ℕ → List ℕ → List ℕ
told_in n front buffer = pick (leb n (length buffer)) (over front buffer) buffer
