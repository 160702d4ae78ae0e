-- Lemmas on what specs/CodeTable.antt defines.
use Rattle.std.specs.Prelude.{◌≡◌, refl, map, drop}
use Rattle.record.specs.Kinds.{byte_of}
use Rattle.record.specs.Tabulated.{Row, rows_from}
use Rattle.kind_code.specs.Codes.{code_of, kind_of}
use Rattle.kind_code.specs.CodeTable.{table}

-- of all bytes these eight are codes, and no other
pub only_eight : rows_from kind_of 0 256 ≡ table
only_eight = refl

pub codes : map (λ (r : Row). code_of r.kind) table ≡ map (λ (r : Row). r.byte) table
codes = refl

-- "else as byte 13"
pub as_byte_13 : map (λ (r : Row). byte_of r.kind) (drop 2 table) ≡ map (λ (r : Row). r.byte) (drop 2 table)
as_byte_13 = refl
