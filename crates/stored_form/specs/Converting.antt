-- What moving stored bytes from one version to the other answers and writes ("moving forward", "moving back"); in code it is a conversion.
use Rattle.std.specs.Prelude.{◌≡◌, List, ◌∷◌, ◌++◌, ℕ, ◌≤◌, length, take, drop, get_or, Option, Some, None, Result, Ok, Err}
use Rattle.record.specs.declared.Checksum.{Checksum}
use Rattle.record.specs.declared.Checksum.TheVariants.{Absent}
use Rattle.record.specs.declared.Record.{Record}
use Rattle.answer.specs.Answers.{WriteAnswer, wrote, refuses, fault_number, output_after}
use Rattle.stored_form.specs.declared.StoredVersion.{StoredVersion}
use Rattle.stored_form.specs.declared.ConvertError.{ConvertError}
use Rattle.stored_form.specs.declared.ConvertError.TheVariants.{Invalid, Refused}
use Rattle.stored_form.specs.Heads.{mark, version_bytes, state_bytes, head_length, state_in}
use Rattle.stored_form.specs.Stored.{stored, kept_answer, store_answer}
use Rattle.stored_form.specs.Loading.{LoadAnswer, loads, no_record, flaw_number, load_answer}

-- a byte of no state is in no stored form
abbrev pub state_said : Option Checksum → Checksum
state_said (Some c) = c
state_said None = Absent

-- the bytes in a version: the mark, its version bytes, the kind code, the state where the version has one, and the address block as it stands
unfoldable pub converted : (from to : StoredVersion) → List ℕ → List ℕ
converted from to s = mark ++ version_bytes to ++ get_or s 5 0 ∷ state_bytes to (state_said (state_in from s)) ++ drop (head_length from) s

-- "An invalid input first gives its reader's number, a wrong length included"; "Moving back answers 24 and writes nothing when the state is matched";
-- "a short output gives 14, last"
abbrev pub convert_by : LoadAnswer → (to : StoredVersion) → (size room : ℕ) → WriteAnswer
convert_by (no_record k) to size room = refuses k
convert_by (loads r) to size room = kept_answer to r.checksum size room

abbrev pub convert_answer : (from to : StoredVersion) → List ℕ → (room : ℕ) → WriteAnswer
convert_answer from to s room = convert_by (load_answer from s) to (length (converted from to s)) room

abbrev pub told_converted : Result ℕ ConvertError → WriteAnswer
told_converted (Ok n) = wrote n
told_converted (Err (Invalid flaw)) = refuses (flaw_number flaw)
told_converted (Err (Refused fault)) = refuses (fault_number fault)

-- ── what the answers mean ──
-- the answer and the output are those of loading in one version and storing in the other: "An invalid input first gives its reader's number"
abbrev pub LoadThenStore : (from to : StoredVersion) (s before : List ℕ) → WriteAnswer → List ℕ → Type 0
LoadThenStore from to s before answer after =
    ((k : ℕ) → load_answer from s ≡ no_record k → (answer ≡ refuses k) × (after ≡ before))
    × ((r : Record) → load_answer from s ≡ loads r
    → (answer ≡ store_answer to r (length before)) × (after ≡ output_after (store_answer to r (length before)) (stored to r) before))

-- the bytes t in the other version go back to the bytes s
abbrev pub Returns : (from to : StoredVersion) (s t : List ℕ) (room : ℕ) → Type 0
Returns from to s t room = (convert_answer to from t room ≡ wrote (length s)) × (converted to from t ≡ s)

-- "Given valid input and room, forward and back gives the same bytes; back and forward does where back was accepted": of the n bytes that are answered
abbrev pub GoesBack : (from to : StoredVersion) (s : List ℕ) → WriteAnswer → List ℕ → Type 0
GoesBack from to s answer after = (n room : ℕ) → answer ≡ wrote n → length s ≤ room → Returns from to s (take n after) room
