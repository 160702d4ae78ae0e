-- What a function that scans a part of an address answers.
use Rattle.std.specs.Prelude.{◌≡◌, List, ℕ, ◌+◌}
use Rattle.exact.specs.Claim.{Verdict, accepted, more, refused}
use Rattle.exact.specs.Machine.{Move, go, done, dead, from}
use Rattle.exact.specs.declared.Scan.{Scan}
use Rattle.ip6.specs.Machine.{Gathered, State, finish, least_address, step}
use Rattle.exact.specs.Scans.{heard}

-- the machine's answer on the bytes from the place i on, in the state q
pub record From (end : ℕ) (s : List ℕ) (i : ℕ) (q : State) (t : Scan (Unit {0})) (groups : List ℕ) : Type 0 where
  pub verdict : (k m : ℕ) → heard k m t groups ≡ from k (step end) (least_address m) s i q

-- the verdict of a move that ends the reading at the place i
abbrev pub closed : ℕ → ℕ → ℕ → Move State (List ℕ) → Verdict (List ℕ)
closed k m i (go q) = more (least_address m q)
closed k m i (done vs) = accepted vs (i + 1)
closed k m i dead = refused k i

-- the machine's answer where the address ends at the place i, behind the groups n
pub record Closed (i : ℕ) (n : Gathered) (t : Scan (Unit {0})) (groups : List ℕ) : Type 0 where
  pub verdict : (k m : ℕ) → heard k m t groups ≡ closed k m i (finish n)
