-- The three parts, each by its function.
use Rattle.std.proofs.Common.{ap, ap₂, ◌∙◌, List, ℕ, ◌+◌, arith}
use Rattle.address_block.specs.AddressBlock.{address_block}
use Rattle.lent.specs.Placed.{placed}
use Rattle.fields.specs.BlockFields.{block_small}
use Rattle.block_writer.proofs.put_block.Goals as goal

pub overflow_add-block_length : goal.overflow_add-block_length
overflow_add-block_length c =
    let h = block_small c.args.from.now.kind in
    let e = c.block_length.ensures in
    omega arith

pub returns : goal.returns
returns c =
    c.put.ensures
    ∙ ap₂ (λ (n : ℕ) (d : List ℕ). placed c.args.area.now (16 + n) d) c.block_length.ensures
    (c.put_addresses.ensures ∙ ap (placed (address_block c.args.from.now) 16) c.put_head.ensures)
