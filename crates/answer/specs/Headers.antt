-- What is read of a whole header, or why the bytes so far are none, as a verdict on them.
use Rattle.std.specs.Prelude.{◌≡◌, List, ℕ, take, drop, Result, Ok, Err, ⊤}
use Rattle.exact.specs.Claim as Claim
use Rattle.exact.specs.Claim.{accepted, more, refused}
use Rattle.record.specs.declared.Kind.{Kind}
use Rattle.address_block.specs.AddressBlock.{block_record}
use Rattle.header.specs.Header as Whole
use Rattle.fields.specs.LineFields.{lined}
use Rattle.fields.specs.BlockFields.{blocked}
use Rattle.answer.specs.declared.Caller.{Caller}
use Rattle.answer.specs.declared.Found.{Found}
use Rattle.answer.specs.declared.Stop.{Stop}
use Rattle.answer.specs.declared.Stop.TheVariants.{More, Refused}
use Rattle.answer.specs.declared.Sight.{Sight}
use Rattle.answer.specs.declared.Sight.TheVariants.{Line, Block}
use Rattle.answer.specs.declared.Header.{Header}
use Rattle.answer.specs.Answers.{number_of, area_of}
use Rattle.answer.specs.Sight.{caller_record, caller_of}

abbrev pub told_stop : {A : Type 0} → Stop → Claim.Verdict A
told_stop (More n) = more n
told_stop (Refused k p) = refused (number_of k) p

-- a line, by whom it says to be calling
abbrev pub told_line : Result (Found Caller) Stop → Claim.Verdict Whole.Header
told_line (Ok f) = accepted (lined (caller_record f.value)) f.end
told_line (Err e) = told_stop e

-- a block, by its kind: its addresses and its TLV area stand in the bytes s
abbrev pub told_block : List ℕ → Result (Found Kind) Stop → Claim.Verdict Whole.Header
told_block s (Ok f) =
    accepted (blocked (block_record f.value (drop 16 s)) (area_of 2 f.value (take f.end s))) f.end
told_block s (Err e) = told_stop e

-- the header that is seen in the bytes s
abbrev pub header_of : List ℕ → Sight → Header
header_of s (Line f) = record { length = f.end; version = 1; «record» = caller_record f.value }
header_of s (Block f) = record { length = f.end; version = 2; «record» = block_record f.value (drop 16 s) }

abbrev pub headed : List ℕ → Result Sight Stop → Result Header Stop
headed s (Ok x) = Ok (header_of s x)
headed s (Err e) = Err e

-- a header at the front of the bytes s
abbrev pub told_header : List ℕ → Result Header Stop → Claim.Verdict Whole.Header
told_header s (Ok h) =
    accepted (record { «record» = h.«record»; version = h.version; area = area_of h.version h.«record».kind (take h.length s) }) h.length
told_header s (Err e) = told_stop e

abbrev pub told_sight : List ℕ → Result Sight Stop → Claim.Verdict Whole.Header
told_sight s x = told_header s (headed s x)

-- a caller is that of its own record: it has zeros behind its addresses
abbrev pub Padded : Caller → Type 0
Padded c = c ≡ caller_of (caller_record c)

abbrev pub PaddedIn : Sight → Type 0
PaddedIn (Line f) = Padded f.value
PaddedIn (Block f) = ⊤
