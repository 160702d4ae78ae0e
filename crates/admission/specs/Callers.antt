-- What a caller may go by (document 02, K14): when waiting is of no use, and where the unique ID lies in the bytes.
use Rattle.std.specs.Prelude.{◌≡◌, true, List, ◌⊎◌, ℕ, ◌+◌, ◌≤◌, take, drop}
use Rattle.exact.specs.Claim as Claim
use Rattle.tlv.specs.Tlv.{Tlv, Area}
use Rattle.header.specs.Header.{Header}
use Rattle.header.specs.Demand.{Judges}
use Rattle.unique_id.specs.UniqueId.{has_id}
use Rattle.unique_id.proofs.IdLaws.{the_id}
use Rattle.profile.specs.Profile.{Admission, admitted, more, refused, denied, local, origin_of}

-- ── "start and length of the 0x05 value in the bytes" ──
-- the value of a header's only TLV 0x05, in its bytes
pub record IdAt (s : List ℕ) (n start size : ℕ) : Type 0 where
  pub header : Header
  pub is : Judges (Claim.accepted header n) s
  pub tlvs : List Tlv
  pub listed : Area header.area tlvs
  pub has : has_id tlvs ≡ true
  pub there : take size (drop start s) ≡ (the_id tlvs has).tlv.value
  pub inside : start + size ≤ n

-- "0, 0 for local"
pub record Nowhere (s : List ℕ) (n start size : ℕ) : Type 0 where
  pub header : Header
  pub is : Judges (Claim.accepted header n) s
  pub is_local : origin_of header.«record».kind ≡ local
  pub no_start : start ≡ 0
  pub no_size : size ≡ 0

-- what an answer says of it
abbrev pub IdTold : (s : List ℕ) → Admission → Type 0
IdTold s (admitted level n start size) = Nowhere s n start size ⊎ IdAt s n start size
IdTold s (more m) = Unit {0}
IdTold s (refused k p) = Unit {0}
IdTold s (denied k) = Unit {0}
