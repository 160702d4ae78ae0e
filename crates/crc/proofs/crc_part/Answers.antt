use Rattle.std.proofs.Common.{◌≡◌, ap, ap₂, sym, ◌∙◌, ℕ, ◌+◌, ◌*◌, ◌/◌, arith, List, drop, take, take-append-drop, length}
use Rattle.std.specs.List.{concat}
use Rattle.crc.specs.Crc.{register}
use Rattle.crc.proofs.PartLaws.{in_parts}
use Rattle.crc.proofs.Turn.{turn, chunk_turn, chunks_done, joined, done}
use Rattle.crc.proofs.crc_part.Goals as goal

pub loop-next-preserved : goal.loop-next-preserved
loop-next-preserved c =
    ap (λ (x : ℕ). register x (concat (drop (c.loop-next.next-index + 1) c.as_chunks.result.0.now))) c.eight-r.ensures
    ∙ chunk_turn c.loop-next.r c.as_chunks.result.0.now c.loop-next.next-index _ (omega arith)
    ∙ c.loop-next.invariant

pub loop-b-preserved : goal.loop-b-preserved
loop-b-preserved c =
    let rest = c.as_chunks.result.1.now in
    ap (λ (x : ℕ). register x (drop (c.loop-b.b-index + 1) rest)) c.one-r.ensures
    ∙ turn c.loop-b.r rest c.loop-b.b-index (omega arith)
    ∙ c.loop-b.invariant

pub returns : goal.returns
returns c =
    let bytes = c.args.bytes.now in
    let eights = c.as_chunks.result.0.now in
    let rest = c.as_chunks.result.1.now in
    let n = length bytes / 8 in
    let front : c.loop-next.r ≡ register c.args.state (take (n * 8) bytes) =
    chunks_done c.loop-next.r eights c.loop-next.next-index (omega arith)
    ∙ c.loop-next.invariant
    ∙ ap (λ (l : List ℕ). register c.args.state l) (ap concat c.as_chunks.ensures.front ∙ joined 8 n bytes)
    in
    done c.loop-b.r rest c.loop-b.b-index (omega arith)
    ∙ c.loop-b.invariant
    ∙ ap₂ register front c.as_chunks.ensures.back
    ∙ sym (in_parts c.args.state (take (n * 8) bytes) (drop (n * 8) bytes))
    ∙ ap (register c.args.state) (take-append-drop (n * 8) bytes)
