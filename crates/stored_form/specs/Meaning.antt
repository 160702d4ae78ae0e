-- What the answers of the writer and of the reader mean (document 01, "Stored form, version 1"; document 02, K7). There is no test in it.
use Rattle.std.specs.Prelude.{◌≡◌, List, ℕ, ◌≤◌, ◌<◌, length, take}
use Rattle.record.specs.declared.Record.{Record}
use Rattle.record.specs.Records.{Clean, Sized}
use Rattle.answer.specs.Answers.{WriteAnswer, wrote, refuses}
use Rattle.stored_form.specs.declared.StoredVersion.{StoredVersion}
use Rattle.stored_form.specs.Heads.{Keeps}
use Rattle.stored_form.specs.Stored.{stored}
use Rattle.stored_form.specs.Loading.{LoadAnswer, loads, no_record, load_answer}

-- a record that a version can store: clean, in a state that the version can say
pub record Storable (v : StoredVersion) (r : Record) : Type 0 where
  pub clean : Clean r
  pub kept : Keeps v r.checksum

-- "The writer: 11, 14"; K7: 24 "between 11 and 14"
pub data Means (v : StoredVersion) (r : Record) (room : ℕ) : WriteAnswer → Type 0 where
  unused : (Clean r → ⊥) → Means v r room (refuses 11)
  not_kept : Clean r → (Keeps v r.checksum → ⊥) → Means v r room (refuses 24)
  too_short : Storable v r → room < length (stored v r) → Means v r room (refuses 14)
  written : Storable v r → length (stored v r) ≤ room → Means v r room (wrote (length (stored v r)))

-- "reading it returns the record": the n bytes that the writer answers are loaded as the record, with its state
abbrev pub LoadsBack : StoredVersion → Record → WriteAnswer → List ℕ → Type 0
LoadsBack v r answer output = (n : ℕ) → answer ≡ wrote n → load_answer v (take n output) ≡ loads r

-- the bytes are the stored form of this record, which the version can store and which is one in memory
pub record Form (v : StoredVersion) (s : List ℕ) (r : Record) : Type 0 where
  pub same : stored v r ≡ s
  pub storable : Storable v r
  pub sized : Sized r

-- "One record, one byte string": what is loaded is the one record whose stored form the bytes are, and what is refused is that of no record
pub data LoadMeans (v : StoredVersion) (s : List ℕ) : LoadAnswer → Type 0 where
  loaded : (r : Record) → Form v s r → ((q : Record) → Form v s q → q ≡ r) → LoadMeans v s (loads r)
  refused : (k : ℕ) → ((r : Record) → Form v s r → ⊥) → LoadMeans v s (no_record k)
