-- How many bytes IPv4 text has.
use Rattle.std.specs.Prelude.{List, ℕ, ◌≤◌, length}
use Rattle.std.proofs.Common.{arith, length-append}
use Rattle.ip4.specs.Ip4.{Address}
use Rattle.decimal.proofs.DecimalLaws.{decimal_length}

-- 3 + 1 + 3 + 1 + 3 + 1 + 3 = 15
pub address_length_lem : (f octets : List ℕ) → Address f octets → length f ≤ 15
address_length_lem f octets l =
    let a = decimal_length 255 l.a l.first 3 l.whole_a (omega arith) (omega arith) in
    let b = decimal_length 255 l.b l.second 3 l.whole_b (omega arith) (omega arith) in
    let c = decimal_length 255 l.c l.third 3 l.whole_c (omega arith) (omega arith) in
    let d = decimal_length 255 l.d l.fourth 3 l.whole_d (omega arith) (omega arith) in
    rw l.split (simp length-append (omega arith))
