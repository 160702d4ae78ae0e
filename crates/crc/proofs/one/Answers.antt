-- One byte, by the law of the table of bytes.
use Rattle.std.proofs.Common.{sym, ap, ◌∙◌, ℕ, ◌/◌, rules, bit_xor}
use Rattle.crc.proofs.Linear.{byte_split}
use Rattle.crc.proofs.one.Goals as goal

pub returns : goal.returns
returns c =
    let x = c.args in
    ap (λ (low : ℕ). bit_xor low (x.state / 256)) c.entry.ensures ∙ sym (byte_split x.state x.b (search rules))
