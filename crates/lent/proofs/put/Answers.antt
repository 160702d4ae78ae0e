-- A turn puts one more byte.
use Rattle.std.proofs.Common.{add-one, arith}
use Rattle.std.proofs.Math.Seq.{paste-suc}
use Rattle.lent.proofs.put.Goals as goal

pub loop-i-preserved : goal.loop-i-preserved
loop-i-preserved c =
    let x = c.args in
    rw (c.loop-i.invariant, add-one) (paste-suc x.out.now x.at x.bytes.now c.loop-i.i 0 (omega arith) (omega arith))
