-- The reading answers the verdict, `tell` tells its numbers, and the two buffers are written where both have room.
use Rattle.std.proofs.Common.{arith}
use Rattle.answer.specs.Headers.{header_of}
use Rattle.fields.proofs.HeaderVerdict.{verdict}
use Rattle.read_interface.specs.ReadInterface.{spoken}
use Rattle.read_interface.proofs.ReadLaws.{few_numbers, short_connection, untouched, written_header, written_stop}
use Rattle.read_interface.proofs.read.Goals as goal

pub returns-then-numbers-lt-NUMBERS : goal.returns-then-numbers-lt-NUMBERS
returns-then-numbers-lt-NUMBERS c =
    let x = c.args in
    untouched (spoken (verdict x.bytes.now)) x.numbers.now x.connection.now
    (few_numbers x.numbers.now x.connection.now (omega arith))

pub returns-then-connection-lt-CONNECTION : goal.returns-then-connection-lt-CONNECTION
returns-then-connection-lt-CONNECTION c =
    let x = c.args in
    untouched (spoken (verdict x.bytes.now)) x.numbers.now x.connection.now
    (short_connection x.numbers.now x.connection.now (omega arith) (omega arith))

pub returns-in-Ok : goal.returns-in-Ok
returns-in-Ok c =
    let x = c.args in
    written_header x.bytes.now x.numbers.now x.connection.now c.put.new.out c.put_sight.new.out (omega arith) (omega arith) c.tell.result c.put.ensures
    (verdict x.bytes.now) (header_of x.bytes.now c.in-Ok.seen) c.in-Ok.ensures.answers (c.tell.ensures x.bytes.now) c.put_sight.ensures

pub returns-in-Err : goal.returns-in-Err
returns-in-Err c =
    let x = c.args in
    written_stop x.bytes.now x.numbers.now x.connection.now c.put-in-Err.new.out c.put_none.new.out (omega arith) (omega arith) c.stop-told.result
    c.put-in-Err.ensures (verdict x.bytes.now) c.in-Err.stop c.in-Err.ensures.answers c.stop-told.ensures
    c.put_none.ensures
