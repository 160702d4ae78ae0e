-- The piece at the index is the first of those that are left.
use Rattle.std.specs.Prelude.{None}
use Rattle.std.proofs.Common.{sym, ◌∙◌, ◌+◌, min, arith, drop}
use Rattle.std.proofs.lemmas.List.{at_drop_more}
use Rattle.ssl_writer.specs.Written.{lent_pieces}
use Rattle.ssl_writer.specs.Steps.{size_from}
use Rattle.ssl_writer.proofs.PutLaws.{size_stops}
use Rattle.ssl_writer.proofs.value_size.Goals as goal

pub loop-piece-preserved : goal.loop-piece-preserved
loop-piece-preserved c =
    let pieces = c.args.pieces.now in
    let i = c.loop-piece.piece-index in (
      omega (arith, c.with_piece-size.ensures),
      size_stops c.with_piece-size.result _ (lent_pieces (drop (i + 1) pieces)) (omega (arith, c.with_piece-size.ensures))
          ∙ sym (at_drop_more (λ l. min (size_from c.loop-piece.size (lent_pieces l)) 65536) pieces i None (omega arith))
          ∙ c.loop-piece.invariant.1,
    )
