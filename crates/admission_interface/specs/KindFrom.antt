-- For proofs. The kind of a kind code that `read` has told, as the code holds it.
use Rattle.std.specs.Prelude.{ℕ, Option, Some, None}
use Rattle.record.specs.declared.Kind.{Kind}
use Rattle.record.specs.declared.Kind.TheVariants.{Unspecified}
use Rattle.kind_code.specs.Codes.{kind_of}

abbrev pub known_kind : Option Kind → Kind
known_kind (Some kind) = kind
known_kind None = Unspecified

abbrev pub kind_from : (code : ℕ) → Kind
kind_from code = known_kind (kind_of code)
