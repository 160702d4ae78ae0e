-- The verdict on IPv4 text that a byte ends, octet by octet.
use Rattle.std.specs.Prelude.{List, [], ◌∷◌, ◌++◌, ℕ, zero, suc, ◌+◌, ◌*◌, eqb}
use Rattle.exact.specs.Claim.{Verdict, accepted}
use Rattle.exact.specs.Field.{after}
use Rattle.exact.specs.Pick.{pick}
use Rattle.decimal.specs.DecimalVerdict.{decimal_verdict}

-- the byte that ends an octet behind which `left` others stand
abbrev pub end_of : (end left : ℕ) → ℕ
end_of end left = pick (eqb left 0) end 46

-- the verdict on the octets that are left behind those given; each of them asks a digit and its end, and m is what is asked behind them all
abbrev pub octets_verdict : (k m end left : ℕ) → List ℕ → List ℕ → Verdict (List ℕ)
octets_verdict k m end zero octets s = accepted octets 0
octets_verdict k m end (suc left) octets s =
    after (decimal_verdict k (2 * left + m) 255 (end_of end left) s) (λ n r. octets_verdict k m end left (octets ++ n ∷ []) r) s

unfoldable pub ip4_verdict : (k m end : ℕ) → List ℕ → Verdict (List ℕ)
ip4_verdict k m end = octets_verdict k m end 4 []
