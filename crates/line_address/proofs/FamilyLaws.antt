-- How few bytes an address asks, with what is asked behind it.
use Rattle.std.specs.Prelude.{◌≡◌, refl, List, ℕ, ◌+◌, ◌≤◌}
use Rattle.std.proofs.Common.{arith}
use Rattle.exact.specs.Verdicts.{Few}
use Rattle.exact.proofs.Verdicts.{few_more, few_after}
use Rattle.ip4.proofs.Ip4Leaf.{ip4_few}
use Rattle.ip6.proofs.Leasts.{address_few as ip6-few}
use Rattle.fields.specs.Exactness.{groups}
use Rattle.line_address.specs.declared.Inet.{Inet}
use Rattle.line_address.specs.declared.Inet.TheVariants.{V4, V6}
use Rattle.line_address.specs.Families.{field, shortest_address}

pub shortest_least : (inet : Inet) (m : ℕ) → (field inet m).least ≡ shortest_address inet + m
shortest_least V6 m = refl
shortest_least V4 m = refl

pub shortest_most : (inet : Inet) → shortest_address inet ≤ 8
shortest_most V6 = omega arith
shortest_most V4 = omega arith

pub address_few : (inet : Inet) (m : ℕ) (s : List ℕ) → Few (8 + m) ((field inet m).verdict s)
address_few V6 m s =
    few_after (8 + m) ((groups m).verdict s) _ s (few_more (4 + m) (8 + m) ((groups m).verdict s) (omega arith) (ip6-few 3 m 32 s)) (λ a t. tt)
address_few V4 m s = ip4_few 3 m 32 s
