-- For proofs. The members of the block's fields are the whole blocks.
use Rattle.std.specs.Prelude.{◌≡◌, List, [], ◌++◌, ℕ, ◌<◌, length}
use Rattle.exact.specs.Claim.{AllBytes}
use Rattle.exact.specs.Network.{network}
use Rattle.tlv.specs.Tlv.{WellFormed}
use Rattle.record.specs.declared.Kind.{Kind}
use Rattle.record.specs.declared.Record.{Record}
use Rattle.header.specs.Block.{Addresses, Block}
use Rattle.header.specs.Header.{Header}
use Rattle.fields.specs.BlockFields.{blocked}

-- ── the members ──
-- the length and a block that is not looked at
pub record Skipped (r : Record) (f : List ℕ) (h : Header) : Type 0 where
  pub block : List ℕ
  pub split : f ≡ network (length block) ++ block
  pub small : length block < 65536
  pub bytes : AllBytes block
  pub says : h ≡ blocked r []

-- the length, the address block and the TLVs
pub record Addressed (k : Kind) (f : List ℕ) (h : Header) : Type 0 where
  pub block : List ℕ
  pub area : List ℕ
  pub «record» : Record
  pub split : f ≡ network (length (block ++ area)) ++ (block ++ area)
  pub small : length (block ++ area) < 65536
  pub addresses : Addresses k block «record»
  pub tlvs : WellFormed area
  pub says : h ≡ blocked «record» area

-- what a block says of its record, its area and its version
abbrev pub Blocked : List ℕ → Header → Type 0
Blocked f h = Block f h.«record» h.area × (h.version ≡ 2)
