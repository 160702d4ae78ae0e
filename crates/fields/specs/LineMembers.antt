-- For proofs. The members of the line's fields are the whole lines.
use Rattle.std.specs.Prelude.{◌≡◌, List, [], ◌∷◌, ◌++◌, ℕ}
use Rattle.decimal.specs.Decimal.{Decimal}
use Rattle.record.specs.declared.Kind.{Kind}
use Rattle.record.specs.declared.Record.{Record}
use Rattle.record.specs.Records.{record_of}
use Rattle.header.specs.Header.{Header}
use Rattle.fields.specs.LineFields.{lined}

-- ── the members of a TCP line ──
-- a TCP line behind "PROXY TCP", whose word ends with the byte x
pub record TcpRest (x : ℕ) (kind : Kind) (Address : List ℕ → List ℕ → Type 0) (f : List ℕ) (h : Header) : Type 0 where
  pub source : List ℕ
  pub destination : List ℕ
  pub source_port : List ℕ
  pub destination_port : List ℕ
  pub split : f ≡ x ∷ 32 ∷ source ++ 32 ∷ destination ++ 32 ∷ source_port ++ 32 ∷ destination_port ++ 13 ∷ 10 ∷ []
  pub from : List ℕ
  pub to : List ℕ
  pub p : ℕ
  pub q : ℕ
  pub whole_source : Address source from
  pub whole_destination : Address destination to
  pub whole_source_port : Decimal 65535 source_port p
  pub whole_destination_port : Decimal 65535 destination_port q
  pub says : h ≡ lined (record_of kind from to p q)

-- ── the members of the whole line ──
-- what a line says of its record, its version and its area
abbrev pub Lined : (List ℕ → Record → Type 0) → List ℕ → Header → Type 0
Lined L f h = L f h.«record» × (h.version ≡ 1) × (h.area ≡ [])
