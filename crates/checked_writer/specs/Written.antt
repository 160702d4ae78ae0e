-- What the version 2 writer writes and answers where a checksum is asked for (document 02, K6).
use Rattle.std.specs.Prelude.{◌≡◌, Bool, false, List, [], ◌++◌, ℕ, ◌<◌, length, replicate}
use Rattle.exact.specs.Pick.{pick}
use Rattle.tlv.specs.Tlv.{tlv_bytes, WellFormed}
use Rattle.tlv.specs.Listed.{tlvs_of}
use Rattle.crc.specs.Crc.{checksum, stored}
use Rattle.tlv_count.specs.Count.{none_test}
use Rattle.record.specs.declared.Kind.{Kind}
use Rattle.record.specs.declared.Kind.TheVariants.{Local, Unspecified, Ip4, Ip6, Unix}
use Rattle.record.specs.declared.Record.{Record}
use Rattle.record.specs.Records.{Clean, Sized}
use Rattle.clean.specs.Unused.{clean_test}
use Rattle.header.specs.Block.{HasAddresses}
use Rattle.answer.specs.Answers.{WriteAnswer}
use Rattle.checksum.specs.Checksum.{values_of}
use Rattle.block_writer.specs.Written.{block_of, written_block, in_order, block_answer}

-- "The writer can add the TLV, last in the area": the area with a checksum of this value
abbrev pub with_tlv : (area value : List ℕ) → List ℕ
with_tlv area value = area ++ tlv_bytes 0x03 value

-- "over the whole header, the four value bytes of TLV 0x03 taken as zero, the result stored in network order"
abbrev pub checksum_for : Record → List ℕ → List ℕ
checksum_for r area = stored (checksum (written_block r (with_tlv area (replicate 4 0))))

abbrev pub checked_area : Record → List ℕ → List ℕ
checked_area r area = with_tlv area (checksum_for r area)

abbrev pub written_checked : Record → List ℕ → List ℕ
written_checked r area = written_block r (checked_area r area)

-- "it refuses with 12 if one is there already or the kind is local or unspecified", as for an area that is ill-formed
pub record RequestFits (k : Kind) (area : List ℕ) : Type 0 where
  pub has : HasAddresses k
  pub tlvs : WellFormed area
  pub none : values_of 0x03 (tlvs_of area) ≡ []

-- the same as a test
abbrev pub request_test : Kind → List ℕ → Bool
request_test Local area = false
request_test Unspecified area = false
request_test (Ip4 t) area = none_test 0x03 area
request_test (Ip6 t) area = none_test 0x03 area
request_test (Unix t) area = none_test 0x03 area

-- the records and areas that version 2 can carry with a checksum: "With the request either state is taken"
pub record CarriedChecked (r : Record) (area : List ℕ) : Type 0 where
  pub sized : Sized r
  pub clean : Clean r
  pub fits : RequestFits r.kind area
  pub small : length (block_of r (checked_area r area)) < 65536

-- "Writers check 10, 11, 12, 13, 14 in this order" (document 01); "13 and 14 count its seven bytes" (document 02, K6)
abbrev pub checked_answer : Record → (area : List ℕ) (room : ℕ) → WriteAnswer
checked_answer r area room =
    in_order (clean_test r) (request_test r.kind area) (length (block_of r (checked_area r area))) (length (written_checked r area)) room

-- "on request": what the version 2 writer writes and answers, with the request or without it
abbrev pub header_text : (request : Bool) → Record → List ℕ → List ℕ
header_text request r area = pick request (written_checked r area) (written_block r area)

abbrev pub header_answer : (request : Bool) → Record → (area : List ℕ) (room : ℕ) → WriteAnswer
header_answer request r area room = pick request (checked_answer r area room) (block_answer r area room)
