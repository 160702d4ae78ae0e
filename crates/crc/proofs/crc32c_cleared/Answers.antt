-- The register goes through the bytes before the place, four zeros, and the bytes behind them.
use Rattle.crc.proofs.Around.{around}
use Rattle.crc.proofs.crc32c_cleared.Goals as goal

pub returns : goal.returns
returns c =
    let x = c.args in
    cc (around x.at x.bytes.now)
