-- Document 02, K10, "Our first read must not swallow payload": what "more n" tells a caller who reads from a stream.
use Rattle.std.specs.Prelude.{List, [], ◌∷◌, ℕ, ◌+◌, ◌≤◌, take}
use Rattle.exact.specs.Claim.{more}
use Rattle.header.specs.Demand.{Judges}

-- ── a caller who reads from a stream ──
-- The sizes of reads from the stream u, behind k bytes that have been read: each is at most what "more" said of the bytes so far.
abbrev pub Careful : List ℕ → ℕ → List ℕ → Type 0
Careful u k [] = Unit {0}
Careful u k (m ∷ reads) = (n : ℕ) × Judges (more n) (take k u) × (m ≤ n) × Careful u (k + m) reads

-- how many bytes have been read then
abbrev pub read_bytes : ℕ → List ℕ → ℕ
read_bytes k [] = k
read_bytes k (m ∷ reads) = read_bytes (k + m) reads
