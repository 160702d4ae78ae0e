-- Demand 3 of document 01, as one claim about all bytes.
use Rattle.std.specs.Prelude.{List, ℕ}
use Rattle.exact.specs.Claim.{Verdict, Claim}
use Rattle.header.specs.Header.{Header, Whole, place_number}

-- The bytes s so far are "accepted" exactly when they begin with a whole header, with what it says and its length; "more" exactly when they do not
-- but some continuation does, with "the smallest number of further bytes with which some continuation is a whole header" (document 02, K10);
-- else "refused", at the first byte at which no such continuation was left, with the number of the field that holds it: `Claim` of crate
-- `exact`, for the whole headers of both versions.
abbrev pub Judges : Verdict Header → List ℕ → Type 0
Judges = Claim Whole place_number
