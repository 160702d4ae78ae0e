-- How an IPv6 address is written (document 02, K3: "by RFC 5952 section 4"), proved of the definitions.
use Rattle.std.specs.Prelude.{◌≡◌, Bool, true, List, [], ◌∷◌, ◌⊎◌, ℕ, ◌+◌, ◌≤◌, eqb, take, drop}
use Prim.Native.Char.{code}
use Rattle.zero_run.specs.ZeroRun.{longest_run}
use Rattle.address_text.specs.Addresses.{colon_text}

-- ── "lower case", and "No dotted tail" ──
abbrev pub LowerDigit : ℕ → Type 0
LowerDigit c = ((code "0" ≤ c) × (c ≤ code "9")) ⊎ ((code "a" ≤ c) × (c ≤ code "f"))

-- such digits and colons, and no other bytes
abbrev pub Lower : List ℕ → Type 0
Lower [] = Unit {0}
Lower (c ∷ f) = (LowerDigit c ⊎ (c ≡ code ":")) × Lower f

-- ── "no leading zeros" ──
-- nothing follows, or a colon: a group ends here
abbrev pub Ends : List ℕ → Type 0
Ends [] = Unit {0}
Ends (c ∷ f) = c ≡ code ":"

-- where a group begins, at the front and behind each colon, a "0" is all of it
abbrev pub NoLeadingZeros : (begins : Bool) → List ℕ → Type 0
NoLeadingZeros begins [] = Unit {0}
NoLeadingZeros begins (c ∷ f) = (begins ≡ true → c ≡ code "0" → Ends f) × NoLeadingZeros (eqb c (code ":")) f

-- ── "::" ──
-- where it stands it is the longest run, and that has two groups or more: one is never shortened
pub record Gap (groups left right : List ℕ) : Type 0 where
  pub two : 2 ≤ (longest_run groups).count
  pub before : left ≡ colon_text (take (longest_run groups).before groups)
  pub behind : right ≡ colon_text (drop ((longest_run groups).before + (longest_run groups).count) groups)
