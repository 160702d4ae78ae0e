-- Lemmas on what proofs/Ip4Parser.antt defines.
use Rattle.std.specs.Prelude.{List, [], ◌∷◌, ◌++◌, ℕ, zero, suc, ◌+◌, ◌*◌, ◌≤◌}
use Rattle.std.proofs.Common.{arith}
use Rattle.exact.specs.Verdicts.{Few}
use Rattle.exact.proofs.Verdicts.{few_more, few_after}
use Rattle.decimal.proofs.DecimalLeaf.{decimal_few}
use Rattle.decimal.specs.DecimalVerdict.{decimal_verdict}
use Rattle.ip4.specs.Ip4Verdict.{end_of, octets_verdict, ip4_verdict}

-- no count is over that of no bytes
octets_few : (k m end left : ℕ) (octets s : List ℕ) → left ≤ 4 → Few (8 + m) (octets_verdict k m end left octets s)
octets_few k m end zero octets s h = tt
octets_few k m end (suc left) octets s h =
    few_after (8 + m) (decimal_verdict k (2 * left + m) 255 (end_of end left) s) (λ n r. octets_verdict k m end left (octets ++ n ∷ []) r) s
    (few_more _ _ (decimal_verdict k (2 * left + m) 255 (end_of end left) s) (omega arith) (decimal_few 255 (end_of end left) k (2 * left + m) s))
    (λ n r. octets_few k m end left (octets ++ n ∷ []) r (omega arith))

pub ip4_few : (k m end : ℕ) (s : List ℕ) → Few (8 + m) (ip4_verdict k m end s)
unfolding ip4_verdict
ip4_few k m end s = octets_few k m end 4 [] s (omega arith)
