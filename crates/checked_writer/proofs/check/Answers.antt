-- The checksum TLV has seven bytes; of a record that is not clean the area says nothing.
use Rattle.std.proofs.Common.{◌+◌, ◌≡◌, refl, ◌∙◌, sym, ap, Bool, false, arith, length}
use Rattle.record.proofs.InMemory.{in_memory}
use Rattle.fields.specs.BlockFields.{block_small}
use Rattle.block_writer.specs.Written.{block_of, in_order}
use Rattle.checked_writer.specs.Written.{request_test, checksum_for, checked_area, written_checked}
use Rattle.checked_writer.proofs.PutLaws.{tlv_length, header_length}
use Rattle.clean.specs.Unused.{clean_test}
use Rattle.checked_writer.proofs.check.Goals.{then-good, else-good}
use Rattle.checked_writer.proofs.check.Goals as goal

pub returns : goal.returns
returns c =
    let r = c.args.from in
    let area = c.args.area.now in
    let s = in_memory r _ c.well_formed.0 in
    let e = c.block_length.ensures in
    let block : c.block_length.result + 7 + length area ≡ length (block_of r (checked_area r area)) =
    let l = tlv_length r area s (checksum_for r area) refl in omega arith
    in
    let all : 16 + (c.block_length.result + 7 + length area) ≡ length (written_checked r area) =
    let l = header_length r area s (checksum_for r area) refl in omega arith
    in
    elim c.if-good.branch [
      | then-good w ↦ c.in_order.ensures ∙ (λ i. in_order (c.clean-good.ensures.0 i) ((w.fits-is ∙ w.request_fits-fits.ensures) i) (block i) (all i) c.args.room)
      | else-good w ↦
          let bad : clean_test r ≡ false = sym c.clean-good.ensures.0 ∙ w.if-good.false in
          c.in_order.ensures
          ∙ ap (λ (b : Bool). in_order b c.if-good.fits (c.block_length.result + 7 + length area) (16 + (c.block_length.result + 7 + length area)) c.args.room) w.if-good.false
          ∙ sym (ap (λ (b : Bool). in_order b (request_test r.kind area) (length (block_of r (checked_area r area))) (length (written_checked r area)) c.args.room) bad)
    ]

pub overflow_add-block_length : goal.overflow_add-block_length
overflow_add-block_length c =
    let h = block_small c.args.from.kind in
    let e = c.block_length.ensures in
    omega arith
