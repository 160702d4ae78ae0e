-- What the reader promises: the one answer that the claim allows (`Judges`), for all bytes.
use Rattle.std.specs.Prelude.{◌≡◌, List, ℕ, Result, IfOk}
use Rattle.header.specs.Demand.{Judges}
use Rattle.fields.proofs.HeaderVerdict.{verdict}
use Rattle.answer.specs.declared.Stop.{Stop}
use Rattle.answer.specs.declared.Sight.{Sight}
use Rattle.answer.specs.declared.Header.{Header}
use Rattle.answer.specs.Headers.{told_header, told_sight, PaddedIn}

-- what is read of the bytes s: its answer is the one that the claim allows, and equals the verdict function's
pub record Reads (s : List ℕ) (r : Result Header Stop) : Type 0 where
  pub judged : Judges (told_header s r) s
  pub answers : told_header s r ≡ verdict s

-- the same of what is seen; the verdict tells the caller, down to the bytes that no address uses
pub record Sees (s : List ℕ) (x : Result Sight Stop) : Type 0 where
  pub judged : Judges (told_sight s x) s
  pub answers : told_sight s x ≡ verdict s
  pub padded : IfOk x PaddedIn
