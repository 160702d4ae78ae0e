-- A scan's answer as a verdict on a field with the number k, behind which m bytes are asked at least.
use Rattle.std.specs.Prelude.{ℕ, ◌+◌, ◌≤◌, ◌<◌, ⊤}
use Rattle.exact.specs.declared.Scan.{Scan}
use Rattle.exact.specs.declared.Scan.TheVariants.{Accepted, More, Refused}
use Rattle.exact.specs.Claim.{Verdict, accepted, more, refused}

abbrev pub told : {A : Type 0} → ℕ → ℕ → Scan A → Verdict A
told k m (Accepted a n) = accepted a n
told k m (More n) = more (n + m)
told k m (Refused p) = refused k p

-- with the value b in place of its own
abbrev pub heard : {A B : Type 0} → ℕ → ℕ → Scan A → B → Verdict B
heard k m (Accepted a n) b = accepted b n
heard k m (More n) b = more (n + m)
heard k m (Refused p) b = refused k p

-- of a field that says nothing but that it is there
abbrev pub present : {A : Type 0} → ℕ → ℕ → Scan A → Verdict ℕ
present k m scan = heard k m scan 0

-- An accepted field lies in n bytes, and so does the byte that rules one out. No more than `most` further bytes are asked.
abbrev pub Inside : {A : Type 0} → (n most : ℕ) → Scan A → Type 0
Inside n most (Accepted a size) = size ≤ n
Inside n most (More least) = least ≤ most
Inside n most (Refused place) = place < n

-- P holds of an accepted field's value
abbrev pub IfAccepted : {A : Type 0} → Scan A → (A → Type 0) → Type 0
IfAccepted (Accepted a n) P = P a
IfAccepted (More n) P = ⊤
IfAccepted (Refused p) P = ⊤
