-- The stored form of a record in a version, and what its writer answers (document 01, "Stored form, version 1"; document 02, K7).
use Rattle.std.specs.Prelude.{List, ◌++◌, ℕ, leb, length}
use Rattle.exact.specs.Pick.{pick}
use Rattle.record.specs.declared.Checksum.{Checksum}
use Rattle.record.specs.declared.Record.{Record}
use Rattle.clean.specs.Unused.{clean_test}
use Rattle.address_block.specs.AddressBlock.{address_block}
use Rattle.answer.specs.Answers.{WriteAnswer, wrote, refuses}
use Rattle.stored_form.specs.declared.StoredVersion.{StoredVersion}
use Rattle.stored_form.specs.Heads.{head, keeps_test}

-- "then the address block"
unfoldable pub stored : StoredVersion → Record → List ℕ
stored v r = head v r.kind r.checksum ++ address_block r

-- 24 "when the state is matched" and the version cannot say it; "a short output gives 14, last"
abbrev pub kept_answer : StoredVersion → Checksum → (size room : ℕ) → WriteAnswer
kept_answer v c size room = pick (keeps_test v c) (pick (leb size room) (wrote size) (refuses 14)) (refuses 24)

-- "The writer: 11, 14"; K7: "and so does the stored version 1 writer" (answers 24), "between 11 and 14"
abbrev pub store_answer : StoredVersion → Record → (room : ℕ) → WriteAnswer
store_answer v r room = pick (clean_test r) (kept_answer v r.checksum (length (stored v r)) room) (refuses 11)
