-- The block of a record in memory is as long as its kind and the area say; of a record that is not plain the area says nothing.
use Rattle.std.proofs.Common.{◌+◌, ◌≡◌, ◌∙◌, sym, ap, Bool, false, arith, length}
use Rattle.record.proofs.InMemory.{in_memory}
use Rattle.block_writer.specs.Written.{block_of, written_block, in_order}
use Rattle.block_writer.proofs.WrittenLaws.{block_length_lem, written_length}
use Rattle.clean.specs.Unused.{plain_test}
use Rattle.block_writer.specs.Areas.{area_test}
use Rattle.block_writer.proofs.check.Goals.{then-good, else-good}
use Rattle.block_writer.proofs.check.Goals as goal

pub returns : goal.returns
returns c =
    let r = c.args.from in
    let area = c.args.area.now in
    let s = in_memory r _ c.well_formed.0 in
    let e = c.block_length.ensures in
    let block : c.block_length.result + length area ≡ length (block_of r area) = let l = block_length_lem r area s in omega arith in
    let all : 16 + (c.block_length.result + length area) ≡ length (written_block r area) = let l = written_length r area s in omega arith in
    elim c.if-good.branch [
      | then-good w ↦ c.in_order.ensures ∙ (λ i. in_order (c.plain-good.ensures.0 i) ((w.fits-is ∙ w.area_fits-fits.ensures) i) (block i) (all i) c.args.room)
      | else-good w ↦
          let bad : plain_test r ≡ false = sym c.plain-good.ensures.0 ∙ w.if-good.false in
          c.in_order.ensures
          ∙ ap (λ (b : Bool). in_order b c.if-good.fits (c.block_length.result + length area) (16 + (c.block_length.result + length area)) c.args.room) w.if-good.false
          ∙ sym (ap (λ (b : Bool). in_order b (area_test r.kind area) (length (block_of r area)) (length (written_block r area)) c.args.room) bad)
    ]
