-- What is answered to a table and the bytes so far (document 02, K14: the doorman), as one claim about all tables and all bytes, and as a function.
-- No reader is mentioned.
use Rattle.std.specs.Prelude.{List, ℕ}
use Rattle.exact.specs.Claim as Claim
use Rattle.exact.specs.Pick.{pick}
use Rattle.header.specs.Header.{Header}
use Rattle.header.specs.Demand.{Judges}
use Rattle.fields.proofs.HeaderVerdict.{verdict}
use Rattle.prefix.specs.Prefix.{Prefix}
use Rattle.prefix_table.specs.Table.{rows_of, Good}
use Rattle.prefix_table.specs.TableTests.{good_table}
use Rattle.profile.specs.Profile.{Admission, more, refused, denied, origin_of, profile, SourceLevel, source_level}

-- "A table [that is not good] answers 34 before anything else"; then "plain verdict accepted, else that answer"; then the profile and the level
pub data Admits (table s : List ℕ) : Admission → Type 0 where
  bad_table : (Good table → ⊥) → Admits table s (denied 34)
  unfinished : (n : ℕ) → Good table → Judges (Claim.more n) s → Admits table s (more n)
  no_header : (k p : ℕ) → Good table → Judges (Claim.refused k p) s → Admits table s (refused k p)
  header : (h : Header) (n level : ℕ) → Good table → Judges (Claim.accepted h n) s
      → SourceLevel (rows_of table) (origin_of h.«record».kind) h.«record».source level → Admits table s (profile h n level)

-- ── the same as a function ──
abbrev pub admission_by : List Prefix → Claim.Verdict Header → Admission
admission_by rows (Claim.accepted h n) = profile h n (source_level rows (origin_of h.«record».kind) h.«record».source)
admission_by rows (Claim.more n) = more n
admission_by rows (Claim.refused k p) = refused k p

abbrev pub admission : (table s : List ℕ) → Admission
admission table s = pick (good_table table) (admission_by (rows_of table) (verdict s)) (denied 34)
