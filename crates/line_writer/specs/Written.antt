-- What the version 1 writer writes and answers (document 01, "The text line" and "Numbered answers").
use Rattle.std.specs.Prelude.{Bool, true, false, ℕ, leb, length}
use Rattle.exact.specs.Pick.{pick}
use Rattle.record.specs.declared.Transport.TheVariants.{Stream, Datagram}
use Rattle.record.specs.declared.Kind.{Kind}
use Rattle.record.specs.declared.Kind.TheVariants.{Local, Unspecified, Ip4, Ip6, Unix}
use Rattle.record.specs.declared.Record.{Record}
use Rattle.record.specs.Records.{Plain, Sized}
use Rattle.clean.specs.Unused.{plain_test}
use Rattle.answer.specs.Answers.{WriteAnswer, wrote, refuses}
use Rattle.line_text.specs.LineText.{written_line}

-- "The version 1 writer carries IPv4 stream, IPv6 stream and unspecified"
pub data HasForm : Kind → Type 0 where
  unspecified : HasForm Unspecified
  tcp4 : HasForm (Ip4 Stream)
  tcp6 : HasForm (Ip6 Stream)

-- the same as a test
abbrev pub has_form : Kind → Bool
has_form Local = false
has_form Unspecified = true
has_form (Ip4 Stream) = true
has_form (Ip4 Datagram) = false
has_form (Ip6 Stream) = true
has_form (Ip6 Datagram) = false
has_form (Unix t) = false

-- the records that version 1 can carry
pub record CarriedByLine (r : Record) : Type 0 where
  pub sized : Sized r
  pub form : HasForm r.kind
  pub plain : Plain r

-- "Writers check 10, 11, 12, 13, 14 in this order; 12 and 13 are the version 2 writer's only"
abbrev pub line_answer : (r : Record) (room : ℕ) → WriteAnswer
line_answer r room =
    pick (has_form r.kind)
    (pick (plain_test r)
    (pick (leb (length (written_line r)) room) (wrote (length (written_line r))) (refuses 14))
    (refuses 11))
    (refuses 10)
