-- What the reader of stored bytes answers, in a version ("Stored form", "Numbered answers").
use Rattle.std.specs.Prelude.{Bool, ◌&&◌, List, ℕ, ◌+◌, eqb, ltb, length, drop, get_or, Option, Some, None, Result, Ok, Err}
use Rattle.exact.specs.Pick.{pick}
use Rattle.record.specs.declared.Kind.{Kind}
use Rattle.record.specs.declared.Kind.TheVariants.{Unspecified}
use Rattle.record.specs.declared.Checksum.{Checksum}
use Rattle.record.specs.declared.Record.{Record}
use Rattle.record.specs.Kinds.{block_length}
use Rattle.record.specs.Records.{with_checksum, bare}
use Rattle.clean.specs.Unused.{clean_state}
use Rattle.address_block.specs.AddressBlock.{block_record}
use Rattle.stored_form.specs.declared.Flaw.{Flaw}
use Rattle.stored_form.specs.declared.Flaw.TheVariants.{Mark, Version, Code, State, Length}
use Rattle.stored_form.specs.declared.StoredVersion.{StoredVersion}
use Rattle.stored_form.specs.Heads.{version_byte, head_length, state_in}
use Rattle.kind_code.specs.Codes.{kind_of}

-- "15, 16, 17, 18: stored form: mark, version, kind code, length"; K7: the state "(0 absent, 1 matched, else 24)"
abbrev pub flaw_number : Flaw → ℕ
flaw_number Mark = 15
flaw_number Version = 16
flaw_number Code = 17
flaw_number State = 24
flaw_number Length = 18

-- what the reader answers: the record, or the number of why there is none
pub data LoadAnswer : Type 0 where
  loads : Record → LoadAnswer
  no_record : ℕ → LoadAnswer

abbrev pub told_loaded : Result Record Flaw → LoadAnswer
told_loaded (Ok r) = loads r
told_loaded (Err flaw) = no_record (flaw_number flaw)

-- what stands for the record where the bytes are refused: unspecified
abbrev pub loaded_record : LoadAnswer → Record
loaded_record (loads r) = r
loaded_record (no_record k) = bare Unspecified

-- the first three bytes are the mark
abbrev pub has_mark : List ℕ → Bool
has_mark s = eqb (get_or s 0 0) 0x43 && eqb (get_or s 1 0) 0x53 && eqb (get_or s 2 0) 0x52

-- the next two are the version
abbrev pub has_version : StoredVersion → List ℕ → Bool
has_version v s = eqb (get_or s 3 0) 0x00 && eqb (get_or s 4 0) (version_byte v)

-- "total length 18"
abbrev pub load_block : StoredVersion → Kind → Checksum → List ℕ → LoadAnswer
load_block v k c s =
    pick (eqb (length s) (head_length v + block_length k)) (loads (with_checksum c (block_record k (drop (head_length v) s)))) (no_record 18)

-- "24 between 17 and the final length check"; "Matched beside local or unspecified reads as 24"
abbrev pub load_state : StoredVersion → Kind → Option Checksum → List ℕ → LoadAnswer
load_state v k None s = no_record 24
load_state v k (Some c) s = pick (clean_state k c) (load_block v k c s) (no_record 24)

-- "code 17"
abbrev pub load_kind : StoredVersion → Option Kind → List ℕ → LoadAnswer
load_kind v None s = no_record 17
load_kind v (Some k) s = load_state v k (state_in v s) s

-- "The reader checks in this order: under 6 bytes 18, mark 15, version 16, code 17, total length 18"; K7: "Checks keep the outline's order …
-- lengths grow by one, and under 7 bytes is 18"
abbrev pub load_answer : StoredVersion → List ℕ → LoadAnswer
load_answer v s =
    pick (ltb (length s) (head_length v)) (no_record 18)
    (pick (has_mark s) (pick (has_version v s) (load_kind v (kind_of (get_or s 5 0)) s) (no_record 16)) (no_record 15))
