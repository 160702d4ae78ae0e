-- What is seen, with its record.
use Rattle.std.proofs.Common.{sym, subst}
use Rattle.std.specs.Prelude.{Ok}
use Rattle.answer.specs.declared.Header.{Header}
use Rattle.reader.specs.Read.{Reads}
use Rattle.reader.proofs.ReadLaws.{with_record}
use Rattle.reader.proofs.read.Goals as goal

pub returns : goal.returns
returns c =
    subst (λ (h : Header). Reads c.args.s.now (Ok h)) (sym c.header_of.ensures) (with_record c.in_ok-seen.seen c.in_ok-seen.ensures)
