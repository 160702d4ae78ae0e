-- What an address so far, as the code holds it, is to the machine.
use Rattle.std.specs.Prelude.{◌≡◌, List, ◌++◌, ℕ, zero, suc, ◌-◌, ◌≤◌, length, take, drop, get_or, replicate}
use Rattle.ip6.specs.Machine.{Gathered, plain, gapped}

-- the first `count` groups, of which the first `gap` end with "::"
pub record Partial : Type 0 where
  pub groups : List ℕ
  pub count : ℕ
  pub gap : ℕ

abbrev pub sofar : List ℕ → ℕ → ℕ → Partial
sofar groups count gap = record { groups = groups; count = count; gap = gap }

pub record Sized (x : Partial) : Type 0 where
  pub eight : length x.groups ≡ 8
  pub most : x.count ≤ 8
  pub within : x.gap ≤ x.count
  pub rest : drop x.count x.groups ≡ replicate (8 - x.count) 0
  -- the group that "::" counts as
  pub zero_there : (g : ℕ) → x.gap ≡ suc g → get_or x.groups g 0 ≡ 0

abbrev pub seen_at : ℕ → List ℕ → Gathered
seen_at zero l = plain l
seen_at (suc g) l = gapped (take g l) (drop (suc g) l)

abbrev pub gathered_of : Partial → Gathered
gathered_of x = seen_at x.gap (take x.count x.groups)

-- the eight groups that n groups stand for, where zeros come behind the first i
abbrev pub spread_at : List ℕ → ℕ → ℕ → List ℕ
spread_at groups n i = take i groups ++ replicate (8 - n) 0 ++ drop i (take n groups)

abbrev pub spread : Partial → List ℕ
spread x = spread_at x.groups x.count x.gap
