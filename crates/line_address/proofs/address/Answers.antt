-- An accepted address has its bytes, with zeros behind them; of IPv6 the verdict on groups is that on their bytes.
use Rattle.std.proofs.Common.{ap, ◌∙◌}
use Rattle.std.specs.Net.Addr.{octets_of}
use Rattle.line_address.proofs.AddressLaws.{accepted4, padded4, as_bytes, accepted6, padded6}
use Rattle.line_address.proofs.address.Goals as goal

pub returns-in-Accepted : goal.returns-in-Accepted
returns-in-Accepted c =
    let s = c.args.s.now in
    let found = c.in-Accepted.ensures.verdict 3 in
    rw c.in-V4.is (record { verdict = λ m. accepted4 m s c.padded.ensures (found m); padded = padded4 s c.padded.ensures (found 0) })

pub returns-in-Accepted-address : goal.returns-in-Accepted-address
returns-in-Accepted-address c =
    let s = c.args.s.now in
    let found = c.in-Accepted-address.ensures.verdict 3 in
    let bytes = c.octets.ensures ∙ ap octets_of c.from.ensures in
    rw c.in-V6.is (record { verdict = λ m. accepted6 m s bytes (found m); padded = padded6 s bytes (found 0) })

pub returns-in-More-address-clause-verdict : goal.returns-in-More-address-clause-verdict
returns-in-More-address-clause-verdict c = rw c.in-V6.is (λ m. as_bytes m c.args.s.now (c.in-More-address.ensures.verdict 3 m))

pub returns-in-Refused-address-clause-verdict : goal.returns-in-Refused-address-clause-verdict
returns-in-Refused-address-clause-verdict c = rw c.in-V6.is (λ m. as_bytes m c.args.s.now (c.in-Refused-address.ensures.verdict 3 m))
