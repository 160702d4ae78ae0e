-- The port's bytes in network order, of which the kind uses two or none.
use Rattle.std.proofs.Common.{ℕ, List, ap, ap₂, ◌∙◌, take}
use Rattle.lent.specs.Placed.{placed}
use Rattle.lent.proofs.NetworkLaws.{be_bytes}
use Rattle.address_block_writer.proofs.put_port.Goals as goal

pub returns : goal.returns
returns c =
    let x = c.args in
    c.put.ensures
    ∙ ap (λ (l : List ℕ). placed l x.at x.out.now)
    (c.front.ensures.2 ∙ ap₂ take c.port_length.ensures (c.to_be_bytes.ensures ∙ be_bytes x.port c.ranges.port.fits))
