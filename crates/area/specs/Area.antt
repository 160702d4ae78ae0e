-- The TLV area of a reading, as a part of the bytes read.
use Rattle.std.specs.Prelude.{List, [], ℕ, ◌+◌, min, eqb, take, Result, Ok, Err}
use Rattle.exact.specs.Pick.{pick}
use Rattle.record.specs.declared.Kind.{Kind}
use Rattle.record.specs.Kinds.{block_length}
use Rattle.answer.specs.declared.Header.{Header}
use Rattle.answer.specs.declared.Stop.{Stop}
use Rattle.answer.specs.Answers.{area_of}

-- the area of a header at the front of the bytes; empty for version 1, local and unspecified
abbrev pub header_area : Header → List ℕ → List ℕ
header_area h s = area_of h.version h.«record».kind (take h.length s)

-- where the area of a header of n bytes ends, and where it starts, "from 16 + A", in size bytes read; local and unspecified have no addresses
abbrev pub span_end : (n version : ℕ) → Kind → ℕ → ℕ
span_end n version kind size = pick (eqb version 2) (pick (eqb (block_length kind) 0) 0 (min n size)) 0

abbrev pub span_start : (n version : ℕ) → Kind → ℕ → ℕ
span_start n version kind size = min (16 + block_length kind) (span_end n version kind size)

-- that of a reading: "it is empty for version 1, local, unspecified and every verdict but accepted"
abbrev pub read_area : Result Header Stop → List ℕ → List ℕ
read_area (Ok h) s = header_area h s
read_area (Err e) s = []

abbrev pub area_start : Result Header Stop → ℕ → ℕ
area_start (Ok h) size = span_start h.length h.version h.«record».kind size
area_start (Err e) size = 0
