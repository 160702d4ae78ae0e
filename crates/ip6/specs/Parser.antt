-- For proofs. The field of an address with the byte that ends it, and its exact verdicts.
use Rattle.std.specs.Prelude.{refl, List, [], ℕ}
use Rattle.exact.specs.Claim.{AllBytes}
use Rattle.exact.specs.Ended.{Ended}
use Rattle.exact.specs.Field.{flat}
use Rattle.exact.specs.Machine.{leaf}
use Rattle.exact.specs.Parser.{Parser, machine, recast}
use Rattle.exact.proofs.Parser.{ended_bytes}
use Rattle.ip6.specs.Address.{Address, Ending}
use Rattle.ip6.specs.Bounds.{address_bounds, spelt_bytes}
use Rattle.ip6.specs.Machine.{start, least_address, step}
use Rattle.ip6.specs.Read.{Good, keeps, runs_address}
use Rattle.ip6.specs.Leasts.{leasts}
use Rattle.ip6.specs.Walk.{address_runs}

pub address_bytes : (f vs : List ℕ) → Address f vs → AllBytes f
address_bytes f vs a = spelt_bytes f (address_bounds f vs a).spelt

abbrev pub ip6 : (k m end : ℕ) → Ending end → Parser (List ℕ) (flat m)
ip6 k m end e =
    recast
    (machine k Good (step end) (least_address m) (flat m) (leasts m end e) (keeps end) start ([], refl)
    (λ f vs r. ended_bytes Address end e.byte address_bytes f vs (runs_address end f vs r)))
    (leaf k (Ended Address end))
    (λ f vs. (runs_address end f vs, address_runs end e f vs))
    (λ u j o p. p)
