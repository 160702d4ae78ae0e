-- The same as functions: the state of a header, and the answer to bytes.
use Rattle.std.specs.Prelude.{◌≡◌, List, [], ◌∷◌, ℕ, take, drop, Option, Some, None}
use Rattle.exact.specs.Claim.{Verdict, accepted, more, refused}
use Rattle.exact.specs.Pick.{pick}
use Rattle.lent.specs.Same.{same}
use Rattle.tlv.specs.Tlv.{Tlv}
use Rattle.tlv.specs.Test.{well_formed}
use Rattle.tlv.specs.Listed.{tlvs_of}
use Rattle.record.specs.declared.Checksum.{Checksum}
use Rattle.record.specs.declared.Checksum.TheVariants.{Absent, Matched}
use Rattle.header.specs.Header.{Header}
use Rattle.fields.proofs.HeaderVerdict.{verdict}
use Rattle.checksum.specs.Checksum.{values_of, checksum_of, Right, Wrong}
use Rattle.checksum.specs.Checked.{CheckedVerdict, judged, refuses, tlvs_in, in_state}

-- by the values of the 0x03 TLVs, and the checksum: the state, or none where the checksum is wrong
abbrev pub state_by : List (List ℕ) → List ℕ → Option Checksum
state_by [] sum = Some Absent
state_by (value ∷ []) sum = pick (same value sum) (Some Matched) None
state_by (value ∷ another ∷ rest) sum = None

abbrev pub state_in : List ℕ → List Tlv → Option Checksum
state_in f tlvs = state_by (values_of 0x03 tlvs) (checksum_of f tlvs)

-- the state of the header f whose TLV area starts at this place; absent where TLVs do not fill what is there
abbrev pub state_from : List ℕ → (start : ℕ) → Option Checksum
state_from f start = pick (well_formed (drop start f)) (state_in f (tlvs_of (drop start f))) (Some Absent)

-- what the state of the header f with these TLVs means
pub data Means (f : List ℕ) (tlvs : List Tlv) : Option Checksum → Type 0 where
  no_checksum : values_of 0x03 tlvs ≡ [] → Means f tlvs (Some Absent)
  right : Right f tlvs → Means f tlvs (Some Matched)
  wrong : Wrong f tlvs → Means f tlvs None

-- what a checked reading answers, by the verdict on the bytes
abbrev pub by_state : Header → ℕ → Option Checksum → CheckedVerdict
by_state h n (Some c) = judged (accepted (in_state c h) n)
by_state h n None = refuses 23

-- the state of the header that the bytes begin with; absent where there is none
abbrev pub state_on : List ℕ → Verdict Header → Option Checksum
state_on s (accepted h n) = state_in (take n s) (tlvs_in h)
state_on s (more n) = Some Absent
state_on s (refused k p) = Some Absent

abbrev pub checked_by : Verdict Header → Option Checksum → CheckedVerdict
checked_by (accepted h n) state = by_state h n state
checked_by (more n) state = judged (more n)
checked_by (refused k p) state = judged (refused k p)

abbrev pub checked_verdict : List ℕ → CheckedVerdict
checked_verdict s = checked_by (verdict s) (state_on s (verdict s))
