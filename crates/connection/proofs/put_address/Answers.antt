-- The address is put over zeros.
use Rattle.std.proofs.Common.{ap, ◌∙◌, List, ℕ}
use Rattle.lent.specs.Placed.{placed}
use Rattle.record.proofs.HeldLaws.{held-placed}
use Rattle.connection.proofs.put_address.Goals as goal

pub returns : goal.returns
returns c =
    let x = c.args in
    c.put-2.ensures
    ∙ ap (λ (d : List ℕ). placed x.address.now x.at d) c.put.ensures
    ∙ held-placed x.address.now x.at x.out.now c.requires.1 c.requires.0
