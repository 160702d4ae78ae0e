-- Four bytes, by the law of a run of four.
use Rattle.crc.proofs.Linear.{moved_four}
use Rattle.crc.proofs.four.Goals as goal

pub returns : goal.returns
returns c =
    let x = c.args in
    cc (moved_four x.row x.state x.a x.b x.c x.d c.ranges.state.fits c.ranges.a.fits c.ranges.b.fits c.ranges.c.fits c.ranges.d.fits)
