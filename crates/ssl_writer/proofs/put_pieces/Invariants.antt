-- The loop's invariant: the pieces from the index on, put from this place on, give what all of them give.
use Rattle.std.proofs.Common.{◌≡◌, ◌+◌, drop}
use Rattle.ssl_writer.specs.Written.{lent_pieces}
use Rattle.ssl_writer.specs.Steps.{pieces_placed}
use Rattle.ssl_writer.proofs.put_pieces.Given as goal

abbrev pub invariant-loop-i : goal.invariant-loop-i
invariant-loop-i l = pieces_placed (0x21 + l.i) (lent_pieces (drop l.i l.pieces)) l.at l.out ≡ pieces_placed 0x21 (lent_pieces l.pieces) 5 l.initial.out
