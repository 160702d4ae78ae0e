-- `put_head` goes by what `put` ensures of the sixteen bytes, `command` and `kind_byte` of bytes 12 and 13, and `to_be_bytes` of the length.
use Rattle.std.proofs.Common.{ℕ, ap, ap₂, ◌∙◌, List, [], ◌∷◌, ◌++◌, get_or}
use Rattle.header.specs.Block.{signature}
use Rattle.record.specs.Kinds.{byte_of}
use Rattle.lent.specs.Placed.{placed}
use Rattle.lent.proofs.NetworkLaws.{be_bytes}
use Rattle.head_writer.specs.Head.{command_of}
use Rattle.head_writer.proofs.put_head.Goals as goal

pub returns : goal.returns
returns c =
    let x = c.args in
    let head : ℕ → ℕ → List ℕ → List ℕ = λ a b l. placed (signature ++ a ∷ b ∷ get_or l 0 0 ∷ get_or l 1 0 ∷ []) 0 x.out.now in
    c.put.ensures
    ∙ ap₂ (λ (a b : ℕ). head a b c.to_be_bytes.result) c.command.ensures c.kind_byte.ensures
    ∙ ap (head (command_of x.kind) (byte_of x.kind)) (c.to_be_bytes.ensures ∙ be_bytes x.size c.ranges.size.fits)
