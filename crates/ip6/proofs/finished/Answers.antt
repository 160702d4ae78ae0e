-- `finished` answers as the machine's move at the end: by whether "::" came, and how many groups did.
use Rattle.std.proofs.Common.{sym, ap, ◌∙◌, List, ℕ, ◌+◌}
use Rattle.exact.specs.Claim.{accepted}
use Rattle.ip6.specs.Answer.{closed}
use Rattle.ip6.proofs.Spread.{finish_full, finish_few, finish_gapped}
use Rattle.ip6.proofs.finished.Goals as goal

pub returns-then-count-eq8 : goal.returns-then-count-eq8
returns-then-count-eq8 c =
    record {
      verdict = λ k m. ap (closed k m _) (sym (finish_full _ c.requires.0 c.if-gap-eq0.true c.if-count-eq8.true));
    }

pub returns-else-count-eq8 : goal.returns-else-count-eq8
returns-else-count-eq8 c =
    record {
      verdict = λ k m. ap (closed k m _) (sym (finish_few _ c.requires.0 c.if-gap-eq0.true c.if-count-eq8.false));
    }

pub returns-else-gap-eq0 : goal.returns-else-gap-eq0
returns-else-gap-eq0 c =
    record {
      verdict = λ k m.
          ap (λ (g : List ℕ). accepted g (c.args.i + 1)) c.spread_out.ensures
          ∙ ap (closed k m _) (sym (finish_gapped _ c.requires.0 c.if-gap-eq0.false));
    }
