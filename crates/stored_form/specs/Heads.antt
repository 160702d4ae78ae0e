-- The two versions of the stored form, each by its head: its version bytes, whether a state is there, its length (document 01, "Stored form, version 1";
-- document 02, K7: "the same mark, version 00 02, the kind code, one byte of state").
use Rattle.std.specs.Prelude.{◌≡◌, Bool, true, List, [], ◌∷◌, ◌++◌, ℕ, get_or, Option, Some}
use Rattle.record.specs.declared.Kind.{Kind}
use Rattle.record.specs.declared.Checksum.{Checksum}
use Rattle.record.specs.declared.Checksum.TheVariants.{Absent}
use Rattle.clean.specs.Unused.{is_absent}
use Rattle.kind_code.specs.Codes.{code_of}
use Rattle.kind_code.specs.States.{state_byte, state_of}
use Rattle.stored_form.specs.declared.StoredVersion.{StoredVersion}
use Rattle.stored_form.specs.declared.StoredVersion.TheVariants.{One, Two}

-- "Mark 43 53 52 ("CSR")"
abbrev pub mark : List ℕ
mark = 0x43 ∷ 0x53 ∷ 0x52 ∷ []

-- "version 00 01"; "version 00 02"
abbrev pub version_byte : StoredVersion → ℕ
version_byte One = 0x01
version_byte Two = 0x02

abbrev pub version_bytes : StoredVersion → List ℕ
version_bytes v = 0x00 ∷ version_byte v ∷ []

-- "one byte of state" behind the kind code, in version 2
abbrev pub state_bytes : StoredVersion → Checksum → List ℕ
state_bytes One c = []
state_bytes Two c = state_byte c ∷ []

-- what stands before the address block
abbrev pub head : StoredVersion → Kind → Checksum → List ℕ
head v k c = mark ++ version_bytes v ++ code_of k ∷ state_bytes v c

-- 3 + 2 + 1, and 1 for the state
abbrev pub head_length : StoredVersion → ℕ
head_length One = 6
head_length Two = 7

-- the state that stored bytes say; those of version 1 have none, and that is absent
abbrev pub state_in : StoredVersion → List ℕ → Option Checksum
state_in One s = Some Absent
state_in Two s = state_of (get_or s 6 0)

-- which states a version can say, and the test of it
abbrev pub Keeps : StoredVersion → Checksum → Type 0
Keeps One c = c ≡ Absent
Keeps Two c = Unit {0}

abbrev pub keeps_test : StoredVersion → Checksum → Bool
keeps_test One c = is_absent c
keeps_test Two c = true
