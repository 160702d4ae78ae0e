-- Every record in memory is `Sized`: two arrays of 108 bytes, and ports of 16 bits. A proof has `Is the_row r vs` of a parameter r as `c.good`.
use mathlib.Core.Path.{◌≡◌}
use mathlib.Core.List.{List, [], ◌∷◌}
use Prim.Native.Nat.{ℕ}
use mir.Syntax.{w8}
use mir.Val.{Val}
use denote.Laws.{Is}
use denote.Plain.{UInt}
use denote.Array.{Array, each}
use denote.Shadow.{shadow}
use lib.ListN.{length}
use Rattle.exact.specs.Claim.{AllBytes}
use Rattle.record.specs.declared.Record.{Record}
use Rattle.record.specs.Records.{Sized}
use Rattle.record.specs.contracts.Record.{the_row}

all_bytes : (xs : List ℕ) (us : List Val) → shadow (each ℕ (UInt w8).own_val xs us) → AllBytes xs
all_bytes [] us h = tt
all_bytes (x ∷ xs) [] h = absurd h
all_bytes (x ∷ xs) (u ∷ us) h = (h.0.1, all_bytes xs us h.1)

address : (xs : List ℕ) (vs : List Val) → Is (Array (UInt w8) 108) xs vs → (length xs ≡ 108) × AllBytes xs
address xs vs p = (p.1.0.1, all_bytes xs p.0 p.1.1)

pub in_memory : (r : Record) (vs : List Val) → Is the_row r vs → Sized r
in_memory r vs p =
    let fields = p.1.1.1 in
    let source = address r.source _ fields.0 in
    let destination = address r.destination _ fields.1.0 in
    record {
      source = source.0;
      destination = destination.0;
      source_bytes = source.1;
      destination_bytes = destination.1;
      source_port = fields.1.1.0.1;
      destination_port = fields.1.1.1.0.1;
    }
