-- What a checked reading of bytes answers (document 02, K6), as one claim about all bytes. No reader is mentioned.
use Rattle.std.specs.Prelude.{◌≡◌, List, [], ℕ, take}
use Rattle.exact.specs.Claim.{Verdict, accepted, more, refused}
use Rattle.tlv.specs.Tlv.{Tlv}
use Rattle.tlv.specs.Listed.{tlvs_of}
use Rattle.record.specs.declared.Checksum.{Checksum}
use Rattle.record.specs.declared.Checksum.TheVariants.{Matched}
use Rattle.record.specs.Records.{with_checksum}
use Rattle.header.specs.Block.{HasAddresses}
use Rattle.header.specs.Header.{Header}
use Rattle.header.specs.Demand.{Judges}
use Rattle.checksum.specs.Checksum.{values_of, Right, Wrong}

-- a verdict as the plain reading gives it, or a number "without a place"
pub data CheckedVerdict : Type 0 where
  judged : Verdict Header → CheckedVerdict
  refuses : (number : ℕ) → CheckedVerdict

abbrev pub tlvs_in : Header → List Tlv
tlvs_in h = tlvs_of h.area

-- "a whole header of an address kind"
abbrev pub OfAddressKind : Header → Type 0
OfAddressKind h = HasAddresses h.«record».kind

-- what the header says, with this state in its record
abbrev pub in_state : Checksum → Header → Header
in_state c h = record { «record» = with_checksum c h.«record»; version = h.version; area = h.area }

-- "A checked reading gives 23 [..] where a whole header of an address kind has a wrong checksum, a 0x03 value that is not 4 bytes, or several 0x03
-- TLVs; otherwise it answers as the plain reading, but with matched where such a header has a 0x03 TLV"
pub data Checks (s : List ℕ) : CheckedVerdict → Type 0 where
  wrong : (h : Header) (n : ℕ) → Judges (accepted h n) s → OfAddressKind h → Wrong (take n s) (tlvs_in h) → Checks s (refuses 23)
  matched : (h : Header) (n : ℕ) → Judges (accepted h n) s → OfAddressKind h → Right (take n s) (tlvs_in h)
      → Checks s (judged (accepted (in_state Matched h) n))
  absent : (h : Header) (n : ℕ) → Judges (accepted h n) s → (OfAddressKind h → values_of 0x03 (tlvs_in h) ≡ []) → Checks s (judged (accepted h n))
  unfinished : (n : ℕ) → Judges (more n) s → Checks s (judged (more n))
  no_header : (k p : ℕ) → Judges (refused k p) s → Checks s (judged (refused k p))
