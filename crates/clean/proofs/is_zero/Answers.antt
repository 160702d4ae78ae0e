-- The comparison with zeros is the test of each byte.
use Rattle.std.proofs.Common.{◌≡◌, rules, ◌∙◌, ◌-◌, eqb, take, length}
use Rattle.std.proofs.Math.ListN.{replicate}
use Rattle.std.specs.Cmp.Lexicographic.{pointwise}
use Rattle.clean.proofs.UnusedLaws.{compared}
use Rattle.clean.proofs.is_zero.Goals as goal

pub returns : goal.returns
returns c =
    let s = c.args.bytes.now in
    let same : c.eq.result ≡ pointwise eqb s (take (length s - 0) (replicate 108 0)) = search rules in
    same ∙ compared 108 s c.requires
