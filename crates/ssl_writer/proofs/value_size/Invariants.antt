-- The loop's invariant: with the pieces from the index on the length so far gives the length with all.
use Rattle.std.proofs.Common.{◌≡◌, ◌≤◌, min, drop}
use Rattle.ssl_writer.specs.Written.{lent_pieces}
use Rattle.ssl_writer.specs.Steps.{size_from}
use Rattle.ssl_writer.proofs.value_size.Given as goal

abbrev pub invariant-loop-piece : goal.invariant-loop-piece
invariant-loop-piece l =
    (l.size ≤ 65536)
    × (min (size_from l.size (lent_pieces (drop l.piece-index l.pieces))) 65536 ≡ min (size_from 5 (lent_pieces l.pieces)) 65536)
