-- The address block is what stands behind the head, where the length is that of the kind.
use Rattle.std.proofs.Common.{ℕ, sym, ap, ◌∙◌, List, arith, drop}
use Rattle.exact.proofs.Parser.{tail_all}
use Rattle.record.specs.declared.Kind.{Kind}
use Rattle.record.specs.declared.Checksum.{Checksum}
use Rattle.record.specs.Records.{with_checksum}
use Rattle.address_block.specs.AddressBlock.{block_record}
use Rattle.address_block.proofs.AddressBlockLaws.{address_fits, port_fits}
use Rattle.stored_form.specs.declared.StoredVersion.{StoredVersion}
use Rattle.stored_form.proofs.HeadLaws.{seven_at_most}
use Rattle.stored_form.specs.Loading.{loads}
use Rattle.stored_form.proofs.LoadLaws.{block_length_lem, block_whole}
use Rattle.load.proofs.load_block.Goals.{After-addresses_of, After-block_length, Else-s-size, Start}
use Rattle.load.proofs.load_block.Goals as goal

module _ (c : After-block_length) where
  abbrev start : Start
  start = (goal.at.After-block_length c).Start

  abbrev bytes : List ℕ
  bytes = start.args.s.now

  abbrev version : StoredVersion
  version = start.args.version

  abbrev kind : Kind
  kind = start.args.kind

  abbrev checksum : Checksum
  checksum = start.args.checksum

pub overflow_add-size : goal.overflow_add-size
overflow_add-size c =
    let a = address_fits (kind c) in
    let p = port_fits (kind c) in
    let v = seven_at_most (version c) in
    let h = c.head_length-n.ensures in
    let e = c.block_length.ensures in
    omega arith

pub returns-then-s-size : goal.returns-then-s-size
returns-then-s-size c =
    let d = (goal.at.returns-then-s-size c).After-block_length in
    let h = d.head_length-n.ensures in
    let n = d.block_length.ensures in
    let other = c.if-s-size.true in
    sym (block_length_lem (version d) (kind d) (checksum d) (bytes d) (λ same. other (omega arith)))

pub returns : goal.returns
returns c =
    let found = (goal.at.returns c).After-addresses_of in
    let tested = (goal.at.After-addresses_of found).Else-s-size in
    let d = (goal.at.Else-s-size tested).After-block_length in
    let h = d.head_length-n.ensures in
    let n = d.block_length.ensures in
    let same = tested.if-s-size.false in
    let made = c.with_checksum.ensures
    ∙ ap (with_checksum (checksum d))
    (found.addresses_of.ensures
    ∙ ap (block_record (kind d)) (tail_all d.head_length-n.result (bytes d) ∙ ap (λ (m : ℕ). drop m (bytes d)) h))
    in
    ap loads made ∙ sym (block_whole (version d) (kind d) (checksum d) (bytes d) (omega arith))
