-- Each write goes on where the last one ended.
use Rattle.std.proofs.Common.{rules, ℕ, List, ◌++◌, take, sym, ap, ◌∙◌, subst}
use lib.Seq.{take-add}
use Rattle.std.specs.Io.KnownBytes.{Appends}
use Rattle.std.proofs.KnownBytes.{Appends-trans}
use Rattle.exact.proofs.Parser.{tail_all}
use Rattle.report.proofs.write_whole.Goals as goal

pub loop-at-preserved : goal.loop-at-preserved
loop-at-preserved g c =
    let bytes = c.args.bytes.now in
    let at = c.loop-at.at in
    let n = c.in_ok-n.n in
    let joined = take-add at n bytes ∙ ap (λ (l : List ℕ). take at bytes ++ take n l) (sym (tail_all at bytes)) in
    (search rules, subst (Appends _ _) (sym joined) (Appends-trans _ _ _ _ _ c.loop-at.invariant.1 c.in_ok-n.ensures.bytes))
