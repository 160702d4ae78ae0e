-- The caller that addresses are stored in.
use Rattle.std.specs.Prelude.{◌≡◌, List, ℕ, take}
use Rattle.std.proofs.Common.{sym, ap, ap₂, ◌∙◌}
use Rattle.record.specs.declared.Kind.{Kind}
use Rattle.record.specs.Kinds.{address_length}
use Rattle.answer.specs.declared.Caller.{Caller}
use Rattle.answer.specs.Headers.{Padded}
use Rattle.line_address.specs.declared.Inet.{Inet}
use Rattle.line_address.specs.Families.{tcp_kind, padded, width}

abbrev caller_with : Kind → List ℕ → List ℕ → ℕ → ℕ → Caller
caller_with k from to p q = record { kind = k; source = from; destination = to; source_port = p; destination_port = q }

-- a caller whose addresses have zeros behind them is that of its own record
pub own_caller : (inet : Inet) (k : Kind) (from to : List ℕ) (p q : ℕ) → k ≡ tcp_kind inet → from ≡ padded (take (width inet) from) → to ≡ padded (take (width inet) to)
    → Padded (caller_with k from to p q)
own_caller inet k from to p q e source destination = ap₂ (λ (x y : List ℕ). caller_with k x y p q) (again from source) (again to destination)
  where
    again : (a : List ℕ) → a ≡ padded (take (width inet) a) → a ≡ padded (take (address_length k) a)
    again a z = z ∙ ap (λ (j : Kind). padded (take (address_length j) a)) (sym e)
