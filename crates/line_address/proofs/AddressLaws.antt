-- The bytes of an address that the code gathers are those that its field says, with zeros behind them.
use Rattle.std.specs.Prelude.{◌≡◌, refl, List, [], ◌∷◌, ℕ, ◌+◌, length, get_or, take}
use Rattle.std.proofs.Common.{sym, ap, ◌∙◌, subst, arith}
use Rattle.std.specs.Net.Addr.{octets_of}
use Rattle.exact.specs.Claim.{Verdict, accepted}
use Rattle.exact.specs.Field.{Exact, flat, after}
use Rattle.ip6.specs.Bounds.{address_bounds}
use Rattle.header.specs.Line.{group_bytes}
use Rattle.fields.specs.Exactness.{address4, groups, address6}
use Rattle.line_address.specs.Families.{padded}

-- four octets and zeros
pub four : (o : List ℕ) → length o ≡ 4
    → get_or o 0 0 ∷ get_or o 1 0 ∷ get_or o 2 0 ∷ get_or o 3 0 ∷ 0 ∷ 0 ∷ 0 ∷ 0 ∷ 0 ∷ 0 ∷ 0 ∷ 0 ∷ 0 ∷ 0 ∷ 0 ∷ 0 ∷ [] ≡ padded o
four [] h = absurd (omega arith)
four (a ∷ []) h = absurd (omega arith)
four (a ∷ b ∷ []) h = absurd (omega arith)
four (a ∷ b ∷ c ∷ []) h = absurd (omega arith)
four (a ∷ b ∷ c ∷ d ∷ []) h = refl
four (a ∷ b ∷ c ∷ d ∷ e ∷ o) h = absurd (omega arith)

four_again : (o : List ℕ) → length o ≡ 4 → take 4 (padded o) ≡ o
four_again [] h = absurd (omega arith)
four_again (a ∷ []) h = absurd (omega arith)
four_again (a ∷ b ∷ []) h = absurd (omega arith)
four_again (a ∷ b ∷ c ∷ []) h = absurd (omega arith)
four_again (a ∷ b ∷ c ∷ d ∷ []) h = refl
four_again (a ∷ b ∷ c ∷ d ∷ e ∷ o) h = absurd (omega arith)

-- an accepted IPv4 address has four octets
octets_again : (m : ℕ) (s octets : List ℕ) (n : ℕ) → accepted octets n ≡ (address4 m).verdict s → take 4 (padded octets) ≡ octets
octets_again m s octets n e =
    let x : Exact (address4 m).field (flat m) (accepted octets n) s =
    subst (λ (v : Verdict (List ℕ)). Exact (address4 m).field (flat m) v s) (sym e) ((address4 m).exact s)
    in
    four_again octets (ap length x.whole.whole.value)

pub accepted4 : (m : ℕ) (s : List ℕ) {octets bytes : List ℕ} {n : ℕ} → bytes ≡ padded octets → accepted octets n ≡ (address4 m).verdict s
    → accepted (take 4 bytes) n ≡ (address4 m).verdict s
accepted4 m s {octets} {bytes} {n} is e = ap (λ (o : List ℕ). accepted o n) (ap (take 4) is ∙ octets_again m s octets n e) ∙ e

pub padded4 : (s : List ℕ) {octets bytes : List ℕ} {n : ℕ} → bytes ≡ padded octets → accepted octets n ≡ (address4 0).verdict s → bytes ≡ padded (take 4 bytes)
padded4 s {octets} {bytes} {n} is e = is ∙ ap padded (sym (ap (take 4) is ∙ octets_again 0 s octets n e))

-- eight groups make sixteen bytes
eight : (g : List ℕ) → length g ≡ 8 → (take 16 (octets_of g) ≡ group_bytes g) × (octets_of g ≡ padded (take 16 (octets_of g)))
eight [] h = absurd (omega arith)
eight (a ∷ []) h = absurd (omega arith)
eight (a ∷ b ∷ []) h = absurd (omega arith)
eight (a ∷ b ∷ c ∷ []) h = absurd (omega arith)
eight (a ∷ b ∷ c ∷ d ∷ []) h = absurd (omega arith)
eight (a ∷ b ∷ c ∷ d ∷ e ∷ []) h = absurd (omega arith)
eight (a ∷ b ∷ c ∷ d ∷ e ∷ f ∷ []) h = absurd (omega arith)
eight (a ∷ b ∷ c ∷ d ∷ e ∷ f ∷ x ∷ []) h = absurd (omega arith)
eight (a ∷ b ∷ c ∷ d ∷ e ∷ f ∷ x ∷ y ∷ []) h = (refl, refl)
eight (a ∷ b ∷ c ∷ d ∷ e ∷ f ∷ x ∷ y ∷ z ∷ g) h = absurd (omega arith)

-- an accepted IPv6 address has eight groups
groups_eight : (m : ℕ) (s gs : List ℕ) (n : ℕ) → accepted gs n ≡ (groups m).verdict s → length gs ≡ 8
groups_eight m s gs n e =
    let x : Exact (groups m).field (flat m) (accepted gs n) s =
    subst (λ (v : Verdict (List ℕ)). Exact (groups m).field (flat m) v s) (sym e) ((groups m).exact s)
    in
    (address_bounds _ gs x.whole.whole).eight

-- the verdict on groups is that on their bytes
pub as_bytes : (m : ℕ) (s : List ℕ) {v : Verdict (List ℕ)} → v ≡ (groups m).verdict s → after v (λ a r. accepted (group_bytes a) 0) s ≡ (address6 m).verdict s
as_bytes m s e = ap (λ (w : Verdict (List ℕ)). after w (λ a r. accepted (group_bytes a) 0) s) e

pub accepted6 : (m : ℕ) (s : List ℕ) {gs bytes : List ℕ} {n : ℕ} → bytes ≡ octets_of gs → accepted gs n ≡ (groups m).verdict s
    → accepted (take 16 bytes) n ≡ (address6 m).verdict s
accepted6 m s {gs} {bytes} {n} is e =
    ap (λ (b : List ℕ). accepted b n) (ap (take 16) is ∙ (eight gs (groups_eight m s gs n e)).0)
    ∙ ap (λ (j : ℕ). accepted (group_bytes gs) j) zero_more
    ∙ as_bytes m s e
  where
    zero_more : n ≡ n + 0
    zero_more = omega arith

pub padded6 : (s : List ℕ) {gs bytes : List ℕ} {n : ℕ} → bytes ≡ octets_of gs → accepted gs n ≡ (groups 0).verdict s → bytes ≡ padded (take 16 bytes)
padded6 s {gs} {bytes} {n} is e = is ∙ (eight gs (groups_eight 0 s gs n e)).1 ∙ ap (λ (b : List ℕ). padded (take 16 b)) (sym is)
