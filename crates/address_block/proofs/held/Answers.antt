-- The bytes are put over zeros.
use Rattle.std.proofs.Common.{ℕ, ◌≤◌, ◌∙◌, ap, List, length, take, arith, length-take}
use Rattle.std.proofs.Math.ListN.{replicate}
use Rattle.lent.specs.Placed.{placed}
use Rattle.address_block.proofs.AddressBlockLaws.{put_held}
use Rattle.address_block.proofs.held.Goals as goal

pub returns : goal.returns
returns c =
    let s = take 108 c.args.bytes.now in
    let e = length-take 108 c.args.bytes.now in
    let few : length s ≤ 108 = omega arith in
    c.put.ensures ∙ ap (λ (a : List ℕ). placed a 0 (replicate 108 0)) c.front.ensures.2 ∙ put_held s few
