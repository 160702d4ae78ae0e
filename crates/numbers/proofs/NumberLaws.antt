-- An area is no longer than its header.
use mathlib.Core.Path.{◌≡◌, refl}
use mathlib.Core.Bool.{Bool, true, false}
use mathlib.Core.List.{List, [], ◌∷◌}
use Prim.Native.Nat.{ℕ, ◌≤◌, min}
use native.Mathlib.Omega.{arith}
use lib.ListN.{length, set}
use Rattle.exact.specs.Pick.{pick}
use Rattle.record.specs.declared.Kind.{Kind}
use Rattle.lent.specs.Buffers.{over}
use lib.Dec.{eqb}
use Rattle.record.specs.Kinds.{block_length}
use Rattle.area.specs.Area.{span_end}

-- the area is no longer than the header
end_by : (n size : ℕ) (b c : Bool) → pick b (pick c 0 (min n size)) 0 ≤ n
end_by n size true true = omega arith
end_by n size true false = omega arith
end_by n size false c = omega arith

pub end_within_header : (kind : Kind) (size n v : ℕ) → span_end n v kind size ≤ n
end_within_header kind size n v = end_by n size (eqb v 2) (eqb (block_length kind) 0)
