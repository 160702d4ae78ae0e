-- `load` ensures what is loaded, and it is told where there is room.
use Rattle.std.proofs.Common.{sym, ap, ◌∙◌, arith}
use Rattle.std.specs.Prelude.{Result}
use Rattle.record.specs.declared.Record.{Record}
use Rattle.lent.specs.Buffers.{told_in}
use Rattle.lent.proofs.BufferLaws.{roomy, cramped}
use Rattle.connection.specs.Connection.{connection_size, connection_bytes}
use Rattle.stored_form.specs.declared.Flaw.{Flaw}
use Rattle.stored_form.specs.Loading.{told_loaded, loaded_record}
use Rattle.numbers.specs.Numbers.{load_number}
use Rattle.read_interface.proofs.load.Goals as goal

pub returns-then-connection-lt-CONNECTION : goal.returns-then-connection-lt-CONNECTION
returns-then-connection-lt-CONNECTION c =
    let connection = c.args.connection.now in
    (cramped connection_size connection _ 14 (omega arith), cramped connection_size connection _ connection (omega arith))

pub returns-in-Ok : goal.returns-in-Ok
returns-in-Ok c =
    let connection = c.args.connection.now in
    let answered = c.load-loaded.ensures.0 in (
      c.outcome_number-number.ensures ∙ ap load_number answered ∙ roomy connection_size connection _ 14 (omega arith),
      c.put_record.ensures
          ∙ ap (λ (r : Record). told_in connection_size (connection_bytes r) connection)
          (ap (λ (l : Result Record Flaw). loaded_record (told_loaded l)) (sym c.in-Ok.is) ∙ ap loaded_record answered),
    )

pub returns-in-Err : goal.returns-in-Err
returns-in-Err c =
    let connection = c.args.connection.now in
    let answered = c.load-loaded.ensures.0 in (
      c.outcome_number-number.ensures ∙ ap load_number answered ∙ roomy connection_size connection _ 14 (omega arith),
      c.put_none.ensures
          ∙ ap (λ (r : Record). told_in connection_size (connection_bytes r) connection)
          (ap (λ (l : Result Record Flaw). loaded_record (told_loaded l)) (sym c.in-Err.is) ∙ ap loaded_record answered),
    )
