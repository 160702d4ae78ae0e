-- The piece at the index is the first of those that are left; behind the last one nothing is.
use Rattle.std.specs.Prelude.{None}
use Rattle.std.proofs.Common.{◌≡◌, sym, ap, ◌∙◌, ◌+◌, suc, arith, drop, drop_of_length-le}
use Rattle.std.proofs.lemmas.List.{at_drop_more}
use Rattle.ssl_writer.specs.Written.{lent_pieces}
use Rattle.ssl_writer.specs.Steps.{pieces_placed}
use Rattle.ssl_writer.proofs.put_pieces.Goals as goal

pub loop-i-preserved : goal.loop-i-preserved
loop-i-preserved c =
    let pieces = c.args.pieces.now in
    let l = c.loop-i in
    let next : 0x21 + (l.i + 1) ≡ suc (0x21 + l.i) = omega arith in
    (λ k. pieces_placed (next k) (lent_pieces (drop (l.i + 1) pieces)) (c.put_piece-at.ensures.0 k) (c.put_piece-at.ensures.1 k))
    ∙ sym (at_drop_more (λ left. pieces_placed (0x21 + l.i) (lent_pieces left) l.at l.out) pieces l.i None (omega arith))
    ∙ l.invariant

pub returns : goal.returns
returns c =
    let l = c.loop-i in
    sym (ap (λ left. pieces_placed (0x21 + l.i) (lent_pieces left) l.at l.out) (drop_of_length-le c.args.pieces.now {i = l.i} (omega arith))) ∙ l.invariant
