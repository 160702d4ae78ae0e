-- Lemmas on what specs/LiteralLaws.antt defines.
use Rattle.std.specs.Prelude.{◌≡◌, Bool, ℕ, ◌+◌, length}
use Rattle.std.proofs.Common.{ap, arith, length-append}
use mathlib.Core.List.{List, ◌∷◌, ◌++◌}
use Rattle.exact.specs.Claim.{Verdict, accepted, more, refused}
use Rattle.exact.specs.Verdicts.{Few}
use Rattle.exact.specs.Field.{flat, Exact}
use Rattle.exact.specs.Machine.{leaf}
use Rattle.exact.specs.Parser.{Starts}
use Rattle.exact.specs.Literal.{Literal, literal}
use Rattle.exact.specs.LiteralLaws.{literal_exact}

pub starts_text : {A : Type 0} (first : ℕ → Bool) (k : ℕ) (v : A) (x : ℕ) (w : List ℕ) → Starts first (first x) (leaf k (Literal v (x ∷ w)))
starts_text first k v x w =
    record {
      solid = λ a l. let e = l.0 in let z : ◌≡◌ {A = ℕ} 0 1 = cc in omega arith;
      head = λ c f a l. let e = l.0 in ap first cc;
    }

-- no count is over that of the whole text
pub literal_few : {A : Type 0} (k m : ℕ) (v : A) (w s : List ℕ) → Few (length w + m) (literal k m v w s)
literal_few {A} k m v w s = by (literal k m v w s) (literal_exact k v (flat m) w s)
  where
    by : (x : Verdict A) → Exact (leaf k (Literal v w)) (flat m) x s → Few (length w + m) x
    by (accepted a n) e = tt
    by (more n) e =
        let o = e.least in
        let size = o.size in
        let all : length (s ++ o.tail) ≡ length w = ap length o.whole.0 in
        let sum = length-append s o.tail in
        omega arith
    by (refused i p) e = tt
