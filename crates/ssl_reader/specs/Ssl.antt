-- The inside of TLV 0x20: "one client byte, a 32-bit verify number in network order, then sub-TLVs that fill the rest by the rule for
-- TLV areas"
use Rattle.std.specs.Prelude.{Bool, true, false, ◌&&◌, List, [], ◌∷◌, ℕ, zero, suc, ◌+◌, ◌%◌, eqb, ltb, leb, length, get_or, take, drop, replicate, Option, Some, None}
use Rattle.exact.specs.Pick.{pick}
use Rattle.network32.specs.Network32.{number32_at}
use Rattle.tlv.specs.Tlv.{Tlv}
use Rattle.tlv.specs.Test.{well_formed}
use Rattle.tlv.specs.Listed.{tlvs_of}
pub use Rattle.tlv_step.specs.declared.Part.{Part}
use Rattle.lookup.specs.Lookup.{index_of_first, start_of, length_of}

abbrev pub client_of : (value : List ℕ) → ℕ
client_of value = get_or value 0 0

abbrev pub verify_of : (value : List ℕ) → ℕ
verify_of value = number32_at value 1

-- the sub-TLVs
abbrev pub subs_of : (value : List ℕ) → List Tlv
subs_of value = tlvs_of (drop 5 value)

-- the value of the sub-TLV with this index, "as a part of the lent bytes", in which the sub-TLVs start at 5; "or absent", where there are not so many
abbrev pub part_at : (i : ℕ) → List Tlv → Option Part
part_at i subs = pick (ltb i (length subs)) (Some (record { start = 5 + start_of i subs; size = length_of i subs })) None

-- "of each type .., the first sub-TLV's value": the first is `lookup`'s, whose index is the number of all of them where none is of the type
abbrev pub part_of : (type : ℕ) → List Tlv → Option Part
part_of type subs = part_at (index_of_first type subs) subs

-- the parts of n types from this one on
abbrev pub parts_from : (n type : ℕ) → List Tlv → List (Option Part)
parts_from zero type subs = []
parts_from (suc n) type subs = part_of type subs ∷ parts_from n (suc type) subs

-- "of each type 0x21 to 0x25"
abbrev pub parts_of : List Tlv → List (Option Part)
parts_of = parts_from 5 0x21

-- the bytes of a part, or absent; "empty is not absent"
abbrev pub piece_in : (value : List ℕ) → Option Part → Option (List ℕ)
piece_in value None = None
piece_in value (Some p) = Some (take p.size (drop p.start value))

abbrev pub pieces_in : (value : List ℕ) → List (Option Part) → List (Option (List ℕ))
pieces_in value [] = []
pieces_in value (p ∷ rest) = piece_in value p ∷ pieces_in value rest

pub data Outcome : Type 0 where
  accepted : Outcome
  refused : (number : ℕ) → Outcome

-- what a value says
pub record Said : Type 0 where
  pub outcome : Outcome
  pub client : ℕ
  pub verify : ℕ
  pub parts : List (Option Part)

-- a refusal says nothing else
abbrev pub nothing : (number : ℕ) → Said
nothing k = record { outcome = refused k; client = 0; verify = 0; parts = replicate 5 None }

-- 19: "a value under 5 bytes or ill-formed sub-TLVs"
abbrev pub is_whole : (value : List ℕ) → Bool
is_whole value = leb 5 (length value) && well_formed (drop 5 value)

abbrev pub is_absent : {T : Type 0} → Option T → Bool
is_absent None = true
is_absent (Some x) = false

-- 20: "client bit 0x01 is set and no sub-TLV 0x21 is there"
abbrev pub lacks_version : (client : ℕ) (absent : Bool) → Bool
lacks_version client absent = eqb (client % 2) 1 && absent

-- what client, verify and sub-TLVs say
abbrev pub said_by : (client verify : ℕ) → List Tlv → Said
said_by client verify subs =
    pick (lacks_version client (is_absent (part_of 0x21 subs))) (nothing 20)
    (record { outcome = accepted; client = client; verify = verify; parts = parts_of subs })

-- "19 .., then 20 .. Give client, verify and, of each type 0x21 to 0x25, the first sub-TLV's value"
abbrev pub said_in : (value : List ℕ) → Said
said_in value = pick (is_whole value) (said_by (client_of value) (verify_of value) (subs_of value)) (nothing 19)
