-- Lemmas on what specs/Parser.antt defines.
use Rattle.std.specs.Prelude.{◌≡◌, refl, Bool, true, false, [], ℕ}
use Rattle.std.proofs.Common.{sym, ap, subst, ⊎_elim, arith}
use Rattle.exact.specs.Claim.{accepted, AllBytes}
use Rattle.exact.specs.Choice.{pure, alt, choose}
use Rattle.exact.proofs.Choice.{pure_exact, alt_least, alt_exact}
use Rattle.exact.specs.Pick.{smaller}
use Rattle.exact.specs.Parser.{Parser, Starts}

-- ── the parsers that the laws make ──
abbrev pub just : {A : Type 0} (w : A → ℕ) → A → Parser A w
just w a =
    record {
      field = pure a;
      verdict = λ s. accepted a 0;
      exact = λ s. pure_exact w a s;
      least = w a;
      opens = record {
        tail = [];
        value = a;
        whole = (refl, refl);
        size = omega arith;
        below = λ t b l. let same : w b ≡ w a = ap w l.1 in omega arith;
      };
      bytes = λ f b l. subst AllBytes (sym l.0) tt;
    }

abbrev pub either : {A : Type 0} {w : A → ℕ} (first : ℕ → Bool) (P Q : Parser A w) → Starts first true P.field → Starts first false Q.field
    → Parser A w
either {w = w} first P Q st-P st-Q =
    record {
      field = alt first P.field Q.field;
      verdict = choose first P.least Q.least P.verdict Q.verdict;
      exact =
          alt_exact first P.field Q.field w P.least Q.least P.verdict Q.verdict P.exact Q.exact st-P.solid
          st-Q.solid st-P.head st-Q.head P.opens Q.opens;
      least = smaller P.least Q.least;
      opens = alt_least first P.field Q.field w P.least Q.least P.opens Q.opens;
      bytes = λ f a. ⊎_elim (P.bytes f a) (Q.bytes f a);
    }
