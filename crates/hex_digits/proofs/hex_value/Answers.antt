-- By the table's rule, which is tested at each entry.
use Rattle.std.proofs.Common.{◌≡◌, refl, ap, ◌∙◌, ℕ, ◌≤◌, arith, get_or, le-leb, sym}
use Rattle.hex_digits.specs.declared.table.TheConstants.{VALUES}
use Rattle.hex_digits.specs.Hex.{hex_of}
use Rattle.hex_digits.specs.Table.{HexTable, looked}
use Rattle.hex_digits.proofs.HexLaws.{hex_behind}
use Rattle.hex_digits.proofs.Tested.{tested}
use Rattle.hex_digits.proofs.hex_value.Goals as goal

the_table : HexTable VALUES
unfolding hex_of
the_table = tested VALUES refl

-- the entry at i is the byte's where i is the byte
entry : (c i : ℕ) → i ≡ c → c ≤ 102 → get_or VALUES i 0 ≡ hex_of c
entry c i same h =
    let within : looked VALUES c ≡ get_or VALUES c 0 = simp (le-leb c 102 h) in
    ap (λ (j : ℕ). get_or VALUES j 0) same ∙ sym within ∙ the_table.value c

pub returns-then-i-ge-HEX_ENTRIES : goal.returns-then-i-ge-HEX_ENTRIES
returns-then-i-ge-HEX_ENTRIES c = sym (hex_behind c.args.c (omega arith))

pub returns : goal.returns
returns c = search (arith, entry)
