-- The reader's answer by its numbers and values.
use Rattle.std.specs.Prelude.{◌≡◌, List, [], ◌∷◌, ℕ, ◌+◌, min, length, take, drop, replicate, Option, Some, None, Result, Ok, Err}
use Rattle.std.specs.Borrow.{Bor}
use Rattle.ssl_reader.specs.Ssl as Spec
use Rattle.ssl_reader.specs.Ssl.{Part, Said, accepted, refused}
use Rattle.ssl_reader.specs.declared.Ssl.{Ssl}
use Rattle.ssl_reader.specs.declared.SslError.{SslError}
use Rattle.ssl_reader.specs.declared.SslError.TheVariants.{IllFormed, NoVersion}

-- "19 for a value under 5 bytes or ill-formed sub-TLVs, then 20"
abbrev pub told_outcome : Result Ssl SslError → Spec.Outcome
told_outcome (Ok r) = accepted
told_outcome (Err IllFormed) = refused 19
told_outcome (Err NoVersion) = refused 20

-- the five pieces
abbrev pub parts_told : Ssl → List (Option Part)
parts_told r = r.version ∷ r.common_name ∷ r.cipher ∷ r.signature ∷ r.key ∷ []

abbrev pub told_ssl : Result Ssl SslError → Said
told_ssl (Ok r) = record { outcome = accepted; client = r.client; verify = r.verify; parts = parts_told r }
told_ssl (Err e) = record { outcome = told_outcome (Err e); client = 0; verify = 0; parts = replicate 5 None }

-- where a part starts, and its length; an absent one is taken as the empty part at 0
abbrev pub part_start : Option Part → ℕ
part_start None = 0
part_start (Some p) = p.start

abbrev pub part_size : Option Part → ℕ
part_size None = 0
part_size (Some p) = p.size

abbrev pub bytes_of : (value : List ℕ) → Option Part → List ℕ
bytes_of value p = take (part_size p) (drop (part_start p) value)

-- "as a part of the lent bytes": it starts so far into the value's memory, though not beyond its end, and has those bytes
abbrev pub PartOf : Bor (List ℕ) → Option Part → Bor (List ℕ) → Type 0
PartOf value p part =
    (part.ref_ptr.0 ≡ value.ref_ptr.0)
    × (part.ref_ptr.1 ≡ value.ref_ptr.1 + min (part_start p) (length value.now))
    × (part.now ≡ bytes_of value.now p)
