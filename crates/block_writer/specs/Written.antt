-- What the version 2 writer writes and answers (document 01, "The binary block" and "Numbered answers").
use Rattle.std.specs.Prelude.{◌≡◌, Bool, List, [], ◌++◌, ℕ, ◌+◌, ◌<◌, length}
use Rattle.exact.specs.Pick.{pick}
use Rattle.tlv.specs.Tlv.{WellFormed}
use Rattle.record.specs.declared.Record.{Record}
use Rattle.record.specs.Kinds.{block_length}
use Rattle.record.specs.Records.{Plain, Sized}
use Rattle.clean.specs.Unused.{plain_test}
use Rattle.address_block.specs.AddressBlock.{address_block}
use Rattle.lent.specs.Placed.{placed}
use Rattle.header.specs.Block.{HasAddresses}
use Rattle.answer.specs.Answers.{WriteAnswer, refuses, sized_answer}
use Rattle.block_writer.specs.Areas.{area_test}
use Rattle.head_writer.specs.Head.{head_of}

-- "the others with the lent TLV area behind the address block"; local and unspecified have no address block
abbrev pub block_of : Record → List ℕ → List ℕ
block_of r area = address_block r ++ area

-- "local as 20 00 with L = 0, unspecified as 21 00 with L = 0, the others with the lent TLV area behind the address block"
unfoldable pub written_block : Record → List ℕ → List ℕ
written_block r area = head_of r.kind (length (block_of r area)) ++ block_of r area

-- the records and areas that version 2 can carry
pub record CarriedByBlock (r : Record) (area : List ℕ) : Type 0 where
  pub sized : Sized r
  pub plain : Plain r
  pub tlvs : WellFormed area
  pub beside : (HasAddresses r.kind → ⊥) → area ≡ []
  pub small : length (block_of r area) < 65536

-- "Writers check 10, 11, 12, 13, 14 in this order; [..] 10 is version 1's only"; 13 where "address block and TLVs exceed 65,535 bytes": by a test of
-- the record, one of the area, and the lengths of the block and the header
abbrev pub in_order : (good fits : Bool) (block header room : ℕ) → WriteAnswer
in_order good fits block header room =
    pick good (pick fits (sized_answer block header room) (refuses 12)) (refuses 11)

abbrev pub block_answer : Record → (area : List ℕ) (room : ℕ) → WriteAnswer
block_answer r area room =
    in_order (plain_test r) (area_test r.kind area) (length (block_of r area)) (length (written_block r area)) room

-- an output when the parts of a header with this length of its block were put into it, one behind the other, each where it fits
abbrev pub block_placed : Record → (size : ℕ) (area output : List ℕ) → List ℕ
block_placed r size area output =
    placed area (16 + block_length r.kind) (placed (address_block r) 16 (placed (head_of r.kind size) 0 output))
