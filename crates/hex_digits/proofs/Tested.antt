-- The test that shows the table right.
use mathlib.Core.Path.{◌≡◌, sym}
use mathlib.Core.List.{List}
use mathlib.Core.Bool.{true}
use Prim.Native.Nat.{ℕ}
use native.Mathlib.Omega.{arith}
use lib.Dec.{leb}
use borrow.Author.Tests.{leb-true, leb-false}
use Rattle.exact.specs.Pick.{pick_by}
use Rattle.exact.specs.Below.{table_below}
use Rattle.exact.proofs.Below.{entry_below}
use Rattle.hex_digits.specs.Hex.{hex_of}
use Rattle.hex_digits.proofs.HexLaws.{hex_behind}
use Rattle.hex_digits.specs.Table.{HexTable}

-- an entry is tested, and behind the table there is no digit
pub tested : (t : List ℕ) → table_below t hex_of 103 ≡ true → HexTable t
tested t all =
    record {
      value = λ c.
          pick_by (λ (v : ℕ). v ≡ hex_of c) (leb c 102) (λ inside. let h = leb-true c 102 inside in entry_below t hex_of 103 c all (omega arith))
          (λ behind. let h = leb-false c 102 behind in sym (hex_behind c (omega arith)));
    }
